use Rattle.std.proofs.Common.{◌≡◌, ◌<◌, ◌≤◌, true, length, subst, arith}
use Rattle.std.proofs.lemmas.List.{take_all}
use Rattle.std.proofs.lemmas.List.Elements.{All-more}
use Rattle.std.proofs.lemmas.Grind.{common_steps}
use Rattle.std.specs.List.{All}
use Rattle.port_partition.specs.Guard.{new_guard}
use Rattle.repeater_core.specs.SilentParts.{is_unchanged}
use Rattle.repeater_core.proofs.calm.guards_unchanged.Goals as goal

pub loop-guard-preserved : goal.loop-guard-preserved
loop-guard-preserved c =
    let within : c.loop-guard.guard-index < length c.args.guards.now = omega arith in
    All-more (λ g. is_unchanged g ≡ true) c.args.guards.now c.loop-guard.guard-index new_guard within c.loop-guard.invariant (grind (arith, common_steps))

pub returns : goal.returns
returns c = λ _.
    let all : length c.args.guards.now ≤ c.loop-guard.guard-index = omega arith in
    subst (All (λ g. is_unchanged g ≡ true)) (take_all c.loop-guard.guard-index c.args.guards.now all) c.loop-guard.invariant
