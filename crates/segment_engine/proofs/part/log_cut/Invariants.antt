use Rattle.std.proofs.Common.{◌≡◌, ◌++◌, drop}
use Rattle.net_parts.specs.OutputsOfParts.{cut_rows_on}
use Rattle.segment_engine.proofs.part.log_cut.Given as goal

-- the Cut rows of the stations below k are there, and the rest are not
abbrev pub invariant-loop-k : goal.invariant-loop-k
invariant-loop-k l = l.rows ++ cut_rows_on l.t (drop l.k l.stations) (drop l.k l.senders) ≡ l.fn.rows ++ cut_rows_on l.t l.stations l.senders
