use Rattle.std.proofs.Common.{◌≡◌, All, map, take}
use Rattle.net_parts.specs.Standing.{receiver_at}
use Rattle.kept_devices.specs.KeptReceivers.{AllHear}
use Rattle.segment_engine.proofs.start.receivers_of.Given as goal

abbrev pub invariant-loop-station : goal.invariant-loop-station
invariant-loop-station l = record {
  steps : All (λ r. r.steps ≡ 0) l.receivers.items;
  receivers : AllHear (map (λ k. receiver_at l.plan k 0) (take l.station-index l.stations)) l.receivers.items;
}
