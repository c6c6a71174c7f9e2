use Rattle.std.proofs.Common.{◌≡◌, ◌+◌, ◌<◌, ◌++◌, ℕ, List, Some, drop, get_or, length, slice_get}
use Rattle.frame_layout.specs.declared.queue.Ready.{Ready}
use Rattle.layout.specs.Paths.{Path}
use Rattle.layout.specs.declared.lines.StationLine.{StationLine}
use Rattle.log_meter.specs.declared.line.LogLine.{LogLine}
use Rattle.frame_table.specs.Devices.{events_of}
use Rattle.frame_table.specs.Histories.{history}
use Rattle.frame_table.specs.Tables.{lines_of_frames}
use Rattle.frame_table.specs.Told.{AreKnown}
use Rattle.frame_table.specs.declared.history.History.{History}
use Rattle.frame_table.proofs.table.add_frames.Given as goal

abbrev pub invariant-loop-n : goal.invariant-loop-n
invariant-loop-n l =
    (lines : List LogLine) (paths : ℕ → ℕ → Path) (s : StationLine) (q : List Ready) → AreKnown l.plan.layout lines paths l.told l.a l.routes
    → slice_get l.plan.layout.stations l.a ≡ Some s → slice_get l.plan.queues l.a ≡ Some q
    → ((k : ℕ) (d : History) → k < length l.histories → get_or l.histories k d ≡ history (k + 1) (events_of l.plan.layout l.a lines))
    → l.text ++ lines_of_frames l.plan paths lines l.a s.name (l.n + 1) (drop l.n q) ≡ l.fn.text ++ lines_of_frames l.plan paths lines l.a s.name 1 q
