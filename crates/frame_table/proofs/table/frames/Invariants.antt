use Rattle.std.proofs.Common.{◌≡◌, ◌++◌, ℕ, drop}
use Rattle.layout.specs.Paths.{Path}
use Rattle.frame_table.specs.Tables.{table_header, table_lines}
use Rattle.frame_table.specs.Ways.{AreRoutes}
use Rattle.frame_table.proofs.table.frames.Given as goal

abbrev pub invariant-loop-a : goal.invariant-loop-a
invariant-loop-a l =
    (paths : ℕ → ℕ → Path) → AreRoutes l.plan.layout paths
    → l.text ++ table_lines l.plan paths l.lines l.a (drop l.a l.plan.layout.stations) (drop l.a l.plan.queues)
    ≡ table_header ++ table_lines l.plan paths l.lines 0 l.plan.layout.stations l.plan.queues
