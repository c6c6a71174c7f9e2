use Rattle.std.proofs.Common.{◌≡◌}
use Rattle.layout.specs.Joined.{counted_up}
use Rattle.layout_file.proofs.graph.first_colours.Given as goal

abbrev pub invariant-loop-part : goal.invariant-loop-part
invariant-loop-part l = l.colours.items ≡ counted_up l.part
