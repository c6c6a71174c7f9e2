use Rattle.std.proofs.Common.{◌≡◌, ◌+◌, ◌++◌, drop}
use Rattle.run_page.specs.LayoutLines.{port_lines}
use Rattle.run_page.proofs.layout_lines.add_ports.Given as goal

abbrev pub invariant-ports : goal.invariant-ports
invariant-ports l = l.text ++ port_lines l.layout l.name (l.p + 1) (drop l.p l.ports) ≡ l.fn.text ++ port_lines l.layout l.name 1 l.ports
