use Rattle.std.proofs.Common.{◌≡◌, map, take}
use Rattle.network.specs.Net.{new_repeater}
use Rattle.net_step.proofs.devices.new_relays.Given as goal

abbrev pub invariant-loop-repeater : goal.invariant-loop-repeater
invariant-loop-repeater l = l.relays.items ≡ map new_repeater (take l.repeater-index l.repeaters)
