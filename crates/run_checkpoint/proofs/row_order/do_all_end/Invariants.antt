use Rattle.std.proofs.Common.{◌≡◌, List, drop, length}
use Rattle.collision_log.specs.declared.row.Row.{Row}
use Rattle.run_checkpoint.specs.Progress.{ended_counts}
use Rattle.run_checkpoint.specs.Ranges.{do_all_end}
use Rattle.run_checkpoint.proofs.row_order.do_all_end.Given as goal

abbrev pub invariant-stations : goal.invariant-stations
invariant-stations l = (rows : List Row) → l.ended ≡ ended_counts (length l.senders) rows → do_all_end 0 l.senders rows ≡ do_all_end l.k (drop l.k l.senders) rows
