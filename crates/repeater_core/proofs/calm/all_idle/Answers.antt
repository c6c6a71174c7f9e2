use Rattle.std.proofs.Common.{◌≡◌, ◌<◌, ◌≤◌, length, subst, arith}
use Rattle.std.proofs.lemmas.List.{take_all}
use Rattle.std.proofs.lemmas.List.Elements.{All-more}
use Rattle.std.proofs.lemmas.Grind.{common_steps}
use Rattle.std.specs.List.{All}
use Rattle.manchester_line.specs.declared.Sym.TheVariants.{Idle}
use Rattle.repeater_core.proofs.calm.all_idle.Goals as goal

pub loop-symbol-preserved : goal.loop-symbol-preserved
loop-symbol-preserved c =
    let within : c.loop-symbol.symbol-index < length c.args.symbols.now = omega arith in
    All-more (λ s. s ≡ Idle) c.args.symbols.now c.loop-symbol.symbol-index Idle within c.loop-symbol.invariant (grind (arith, common_steps))

pub returns : goal.returns
returns c = λ _.
    let all : length c.args.symbols.now ≤ c.loop-symbol.symbol-index = omega arith in
    subst (All (λ s. s ≡ Idle)) (take_all c.loop-symbol.symbol-index c.args.symbols.now all) c.loop-symbol.invariant
