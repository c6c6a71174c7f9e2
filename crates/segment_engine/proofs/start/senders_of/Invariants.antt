use Rattle.std.proofs.Common.{◌≡◌, map, take}
use Rattle.network.specs.Attempts.{sender_at}
use Rattle.segment_engine.proofs.start.senders_of.Given as goal

abbrev pub invariant-loop-station : goal.invariant-loop-station
invariant-loop-station l = l.senders.items ≡ map (λ k. sender_at l.plan k 0) (take l.station-index l.stations)
