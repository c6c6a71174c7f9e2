use Rattle.std.proofs.Common.{◌≡◌, ◌++◌, map, drop}
use Rattle.run_checkpoint.specs.Places.{ports_of_repeaters}
use Rattle.run_checkpoint.specs.PortNames.{named_port}
use Rattle.run_checkpoint.proofs.places.all_ports.Given as goal

abbrev pub invariant-loop-repeater : goal.invariant-loop-repeater
invariant-loop-repeater l = map named_port l.ports.items ++ ports_of_repeaters (drop l.repeater-index l.layout.repeaters) ≡ ports_of_repeaters l.layout.repeaters
