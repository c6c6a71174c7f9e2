use Rattle.std.proofs.Common.{◌≡◌, ◌++◌, drop}
use Rattle.network.specs.Rows.{rows_of}
use Rattle.net_step.proofs.rows.log_stations.Given as goal

-- the rows of the stations below k are there, and the rest are not
abbrev pub invariant-loop-k : goal.invariant-loop-k
invariant-loop-k l = l.rows ++ rows_of l.t l.k (drop l.k l.sent) (drop l.k l.received) ≡ l.fn.rows ++ rows_of l.t 0 l.sent l.received
