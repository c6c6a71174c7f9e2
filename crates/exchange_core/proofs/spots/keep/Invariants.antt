use Rattle.std.proofs.Common.{◌≡◌, ◌+◌, ◌-◌, ℕ, get_or}
use Rattle.std.specs.Prelude.{vec_len}
use Rattle.exchange_core.proofs.spots.keep.Given as goal

abbrev pub invariant-loop-numbers : goal.invariant-loop-numbers
invariant-loop-numbers l = (e : ℕ) → get_or l.numbers.items e 0 ≡ get_or l.initial.numbers.items e 0

abbrev pub decreases-loop-numbers : goal.decreases-loop-numbers
decreases-loop-numbers l = l.edge + 1 - vec_len l.numbers
