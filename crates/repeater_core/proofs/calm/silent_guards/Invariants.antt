use Rattle.std.proofs.Common.{◌≡◌, ◌++◌, length, map, take, drop}
use Rattle.repeater_core.specs.SilentParts.{silent_guard}
use Rattle.repeater_core.proofs.calm.silent_guards.Given as goal

abbrev pub invariant-loop-guard : goal.invariant-loop-guard
invariant-loop-guard l = record {
  len : length l.guards ≡ length l.fn.guards;
  states : take l.guard-index l.guards ++ map silent_guard (drop l.guard-index l.guards) ≡ map silent_guard l.fn.guards;
}
