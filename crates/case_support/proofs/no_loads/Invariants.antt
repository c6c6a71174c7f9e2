use Rattle.std.proofs.Common.{◌≡◌, ◌≤◌, length, All}
use Rattle.case_support.proofs.no_loads.Given as goal

abbrev pub invariant-loop-station : goal.invariant-loop-station
invariant-loop-station l = (length l.loads ≡ l._station) × All (λ rs. length rs ≤ 4000000000) l.loads
