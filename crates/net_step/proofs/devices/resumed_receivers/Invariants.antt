use Rattle.std.proofs.Common.{◌≡◌, All, length, map, take}
use Rattle.network.specs.Net.{new_receiver}
use Rattle.kept_devices.specs.KeptReceivers.{AllHear}
use Rattle.net_step.proofs.devices.resumed_receivers.Given as goal

abbrev pub invariant-loop-station : goal.invariant-loop-station
invariant-loop-station l = record {
  count : length l.receivers.items ≡ l.station-index;
  steps : All (λ r. r.steps ≡ l.t) l.receivers.items;
  receivers : AllHear (map (new_receiver l.most) (take l.station-index l.stations)) l.receivers.items;
}
