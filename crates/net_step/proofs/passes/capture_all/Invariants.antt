use Rattle.std.proofs.Common.{◌≡◌, ◌++◌, length, map, take, drop}
use Rattle.mac_receive.specs.KeptReceiver.{kept_octets}
use Rattle.network.specs.Captures.{captured}
use Rattle.net_step.proofs.passes.capture_all.Given as goal

-- the stations below k have captured, and the rest have not
abbrev pub invariant-loop-k : goal.invariant-loop-k
invariant-loop-k l = record {
  len : length l.captures ≡ length l.received;
  captures : take l.k l.captures ++ captured l.t (drop l.k l.received) (map kept_octets (drop l.k l.receivers)) (drop l.k l.captures) ≡ captured l.t l.received (map kept_octets l.receivers) l.fn.captures;
}
