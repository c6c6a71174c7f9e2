use Rattle.std.proofs.Common.{◌≡◌, ◌++◌, drop}
use Rattle.network.specs.Outputs.{cut_rows}
use Rattle.net_step.proofs.rows.log_cut.Given as goal

abbrev pub invariant-loop-k : goal.invariant-loop-k
invariant-loop-k l = l.rows ++ cut_rows l.t l.k (drop l.k l.senders) ≡ l.fn.rows ++ cut_rows l.t 0 l.senders
