use Rattle.std.proofs.Common.{◌≡◌, ◌++◌, drop}
use Rattle.std.specs.List.{flat_map}
use Rattle.run_page.specs.LayoutLines.{segment_line}
use Rattle.run_page.proofs.layout_lines.add_segments.Given as goal

abbrev pub invariant-loop-segment : goal.invariant-loop-segment
invariant-loop-segment l = l.text ++ flat_map segment_line (drop l.segment-index l.segments) ≡ l.fn.text ++ flat_map segment_line l.segments
