use Rattle.std.proofs.Common.{◌≡◌, take, true}
use Rattle.std.specs.List.{All}
use Rattle.repeater_core.specs.SilentParts.{is_unchanged}
use Rattle.repeater_core.proofs.calm.guards_unchanged.Given as goal

abbrev pub invariant-loop-guard : goal.invariant-loop-guard
invariant-loop-guard l = All (λ g. is_unchanged g ≡ true) (take l.guard-index l.guards)
