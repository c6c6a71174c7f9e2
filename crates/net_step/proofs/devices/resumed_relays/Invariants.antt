use Rattle.std.proofs.Common.{◌≡◌, ◌+◌, ◌++◌, drop, length, sum_by}
use Rattle.quiet_state.specs.Resumed.{resumed_repeaters}
use Rattle.net_step.proofs.devices.resumed_relays.Given as goal

-- the guards and rests from `from` on are those of the repeaters from k on
abbrev pub invariant-loop-repeater : goal.invariant-loop-repeater
invariant-loop-repeater l = record {
  from : l.from + sum_by (λ r. length r.ports) (drop l.repeater-index l.repeaters) ≡ length l.guards;
  relays : l.relays.items ++ resumed_repeaters (drop l.repeater-index l.repeaters) (drop l.from l.guards) (drop l.from l.rests) ≡ resumed_repeaters l.repeaters l.guards l.rests;
}
