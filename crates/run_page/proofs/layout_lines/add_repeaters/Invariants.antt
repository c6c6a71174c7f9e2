use Rattle.std.proofs.Common.{◌≡◌, ◌++◌, drop}
use Rattle.std.specs.List.{flat_map}
use Rattle.run_page.specs.LayoutLines.{repeater_with_ports}
use Rattle.run_page.proofs.layout_lines.add_repeaters.Given as goal

abbrev pub invariant-loop-repeater : goal.invariant-loop-repeater
invariant-loop-repeater l = l.text ++ flat_map (repeater_with_ports l.layout) (drop l.repeater-index l.repeaters) ≡ l.fn.text ++ flat_map (repeater_with_ports l.layout) l.repeaters
