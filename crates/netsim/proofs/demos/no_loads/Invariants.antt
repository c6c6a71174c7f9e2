use Rattle.std.proofs.Common.{◌≡◌, ◌≤◌, [], All, length}
use Rattle.std.specs.Prelude.{replicate}
use Rattle.run_endings.specs.FileLimits.{most_load_records}
use Rattle.netsim.proofs.demos.no_loads.Given as goal

abbrev pub invariant-loop-station : goal.invariant-loop-station
invariant-loop-station l =
    (l.loads ≡ replicate l._station []) × (length l.loads ≡ l._station) × All (λ rs. length rs ≤ most_load_records) l.loads
