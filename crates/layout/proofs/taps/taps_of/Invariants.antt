use Rattle.std.proofs.Common.{◌≡◌, ◌++◌, map, take}
use Rattle.std.specs.List.{flat_map}
use Rattle.layout.specs.Taps.{tap_of}
use Rattle.layout.proofs.taps.taps_of.Given as goal

abbrev pub invariant-loop-station : goal.invariant-loop-station
invariant-loop-station l = l.taps.items ≡ map tap_of (take l.station-index l.layout.stations)

abbrev pub invariant-loop-repeater : goal.invariant-loop-repeater
invariant-loop-repeater l = l.taps.items ≡ map tap_of l.layout.stations ++ flat_map (λ r. r.ports) (take l.repeater-index l.layout.repeaters)
