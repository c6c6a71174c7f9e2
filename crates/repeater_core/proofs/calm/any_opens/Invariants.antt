use Rattle.std.proofs.Common.{◌≡◌, drop}
use Rattle.repeater_core.specs.SilentParts.{any_opens}
use Rattle.repeater_core.proofs.calm.any_opens.Given as goal

abbrev pub invariant-loop-guard : goal.invariant-loop-guard
invariant-loop-guard l = any_opens (drop l.guard-index l.guards) ≡ any_opens l.guards
