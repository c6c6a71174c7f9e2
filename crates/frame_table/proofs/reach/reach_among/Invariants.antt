use Rattle.std.proofs.Common.{◌≡◌, ℕ, List}
use Rattle.layout.specs.Paths.{Path}
use Rattle.layout.specs.declared.lines.Layout.{Layout}
use Rattle.log_meter.specs.declared.line.LogLine.{LogLine}
use Rattle.frame_table.specs.Reached.{reach_among}
use Rattle.frame_table.specs.Told.{AreKnown}
use Rattle.frame_table.proofs.reach.reach_among.Given as goal

abbrev pub invariant-loop-b : goal.invariant-loop-b
invariant-loop-b l =
    (layout : Layout) (lines : List LogLine) (paths : ℕ → ℕ → Path) → AreKnown layout lines paths l.told l.a l.routes
    → l.reach ≡ reach_among l.half_bits layout paths lines l.octets l.t l.a l.b
