use Rattle.std.proofs.Common.{◌≡◌, ◌++◌, All, length, map, take, drop}
use Rattle.std.specs.Fn.{iterate}
use Rattle.repeater_core.specs.Calm.{IsCalm, silent_step}
use Rattle.net_step.proofs.leaps.leap_relays.Given as goal

-- the repeaters so far have leapt, and the others have not
abbrev pub invariant-loop-relay : goal.invariant-loop-relay
invariant-loop-relay l = record {
  calm : All (λ r. IsCalm r l.count) (drop l.relay-index l.relays);
  states : take l.relay-index l.relays ++ map (iterate silent_step l.count) (drop l.relay-index l.relays) ≡ map (iterate silent_step l.count) l.fn.relays;
  ports : map (λ r. length r.guards) l.relays ≡ map (λ r. length r.guards) l.fn.relays;
}
