use Rattle.std.proofs.Common.{◌≡◌, ◌++◌, map}
use Rattle.run_checkpoint.specs.Places.{ports_named}
use Rattle.run_checkpoint.specs.PortNames.{named_port}
use Rattle.run_checkpoint.proofs.places.add_ports.Given as goal

abbrev pub invariant-ports : goal.invariant-ports
invariant-ports l = map named_port l.ports.items ≡ map named_port l.fn.ports.items ++ ports_named l.repeater.name l.p
