-- What stays of a repeater over silent half bits.
use Rattle.std.proofs.Common.{◌≡◌, ℕ, zero, suc, length, refl, ◌∙◌}
use Rattle.std.specs.Fn.{iterate}
use Rattle.std.proofs.lemmas.List.{length-map}
use Rattle.repeater_core.specs.Calm.{silent_step, silent_symbols}
use Rattle.repeater_core.specs.Counts.{Choice}
use Rattle.repeater_core.specs.Step.{RepeaterDevice, chosen}
use Rattle.repeater_core.proofs.Lawful.{length_chosen}

one_on : (r : RepeaterDevice) → length (silent_step r).counts ≡ length r.counts
unfolding silent_step
one_on r = length-map (chosen (silent_symbols r) r) (λ (c : Choice). c.count) ∙ length_chosen (silent_symbols r) r

pub same_counts : (m : ℕ) (r : RepeaterDevice) → length (iterate silent_step m r).counts ≡ length r.counts
same_counts zero r = refl
same_counts (suc m) r = same_counts m (silent_step r) ∙ one_on r
