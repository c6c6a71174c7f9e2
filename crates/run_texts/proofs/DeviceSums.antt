-- Sums with one more device.
use Rattle.std.proofs.Common.{◌≡◌, ℕ, suc, ◌+◌, ◌<◌, List, [], ◌∷◌, ◌++◌, length, get_or, take, sym, ap, ◌∙◌, arith}
use Rattle.std.proofs.Math.Seq.{take-suc}
use Rattle.std.proofs.lemmas.List.Sums.{sum_by_push}
use Rattle.collision_log.specs.declared.counters.Counters.{Counters}
use Rattle.run_texts.specs.Counting.{with_counts}
use Rattle.run_texts.specs.Counts.{totals}
use Rattle.run_texts.specs.declared.totals.Sums.{Sums}

pub totals_push : (cs : List Counters) (c : Counters) → totals (cs ++ c ∷ []) ≡ with_counts (totals cs) c
unfolding totals
totals_push cs c = simp sum_by_push

-- one more device
pub next_device : (cs : List Counters) (i : ℕ) (d : Counters) (before after : Sums) → i < length cs → before ≡ totals (take i cs) → after ≡ with_counts before (get_or cs i d) → after ≡ totals (take (i + 1) cs)
next_device cs i d before after lt was is =
    let next : i + 1 ≡ suc i = omega arith in
    let c = get_or cs i d in
    rw next (is ∙ ap (λ s. with_counts s c) was ∙ sym (totals_push (take i cs) c) ∙ ap totals (sym (take-suc cs i d lt)))
