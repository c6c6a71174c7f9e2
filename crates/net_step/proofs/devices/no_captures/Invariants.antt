use Rattle.std.proofs.Common.{◌≡◌, [], map, take}
use Rattle.net_step.proofs.devices.no_captures.Given as goal

abbrev pub invariant-loop-station : goal.invariant-loop-station
invariant-loop-station l = l.captures.items ≡ map (λ s. []) (take l._station-index l.stations)
