use Rattle.std.proofs.Common.{◌≡◌, ◌++◌, map, take}
use Rattle.frame_table.proofs.devices.device_names.Given as goal

abbrev pub invariant-loop-station : goal.invariant-loop-station
invariant-loop-station l = map (λ name. name.now) l.names.items ≡ map (λ s. s.name) (take l.station-index l.layout.stations)

abbrev pub invariant-loop-repeater : goal.invariant-loop-repeater
invariant-loop-repeater l = map (λ name. name.now) l.names.items ≡ map (λ s. s.name) l.layout.stations ++ map (λ r. r.name) (take l.repeater-index l.layout.repeaters)
