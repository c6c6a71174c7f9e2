use Rattle.std.proofs.Common.{◌≡◌, ◌++◌, drop}
use Rattle.run_picture.specs.Marks.{signs_of_ports}
use Rattle.run_picture.proofs.marks.add_signs_of_ports.Given as goal

abbrev pub invariant-ports : goal.invariant-ports
invariant-ports l = l.text ++ signs_of_ports l.window l.line l.bands l.repeater l.p (drop l.p l.ports) ≡ l.fn.text ++ signs_of_ports l.window l.line l.bands l.repeater 0 l.ports
