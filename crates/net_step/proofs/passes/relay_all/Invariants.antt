use Rattle.std.proofs.Common.{◌≡◌, ◌+◌, ◌++◌, length, map, take, drop}
use Rattle.std.specs.List.{flat_map}
use Rattle.repeater_core.specs.Step.{after, decided_by, emitted_by}
use Rattle.network.specs.Net.{each_repeater, ports_of}
use Rattle.network.specs.Rows.{repeater_bodies}
use Rattle.net_step.specs.KeptNet.{all_told}
use Rattle.net_step.proofs.passes.relay_all.Given as goal

-- the repeaters below k have stepped, and the ports before `from` are theirs
abbrev pub invariant-loop-k : goal.invariant-loop-k
invariant-loop-k l =
    let rest = drop l.k l.relays in
    record {
      from : l.from + ports_of rest ≡ length l.heard;
      ports : map (λ r. length r.guards) l.relays ≡ map (λ r. length r.guards) l.fn.relays;
      len : length l.emitted ≡ length l.heard;
      len_decided : length l.decided ≡ length l.heard;
      len_events : length l.events ≡ length l.relays;
      states : take l.k l.relays ++ each_repeater after (drop l.from l.heard) rest ≡ each_repeater after l.heard l.fn.relays;
      bodies : all_told (take l.k l.relays) (take l.k l.events) ++ each_repeater repeater_bodies (drop l.from l.heard) rest ≡ each_repeater repeater_bodies l.heard l.fn.relays;
      emitted : take l.from l.emitted ++ flat_map emitted_by rest ≡ flat_map emitted_by l.fn.relays;
      decided : take l.from l.decided ++ flat_map (λ symbols. symbols) (each_repeater decided_by (drop l.from l.heard) rest) ≡ flat_map (λ symbols. symbols) (each_repeater decided_by l.heard l.fn.relays);
    }
