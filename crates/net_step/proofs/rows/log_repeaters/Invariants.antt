use Rattle.std.proofs.Common.{◌≡◌, ◌+◌, ◌++◌, drop}
use Rattle.network.specs.Rows.{repeater_rows}
use Rattle.net_step.specs.KeptNet.{all_told}
use Rattle.net_step.proofs.rows.log_repeaters.Given as goal

-- the rows of the repeaters below k are there, and the rest are not
abbrev pub invariant-loop-k : goal.invariant-loop-k
invariant-loop-k l = l.rows ++ repeater_rows l.t (l.first + l.k) (all_told (drop l.k l.relays) (drop l.k l.events)) ≡ l.fn.rows ++ repeater_rows l.t l.first (all_told l.relays l.events)
