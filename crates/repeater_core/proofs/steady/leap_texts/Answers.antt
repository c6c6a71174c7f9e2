use Rattle.std.proofs.Common.{◌≡◌, length, refl, sym, ap, subst, ◌∙◌, arith}
use Rattle.std.proofs.lemmas.Grind.{common_steps}
use Rattle.std.proofs.lemmas.List.Elements.{All-replicate}
use Rattle.std.specs.List.{All}
use Rattle.manchester_line.specs.declared.Sym.TheVariants as sy
use Rattle.repeater_core.specs.declared.modes.Mode.TheVariants.{Idle}
use Rattle.repeater_core.specs.Classes.{texts_after}
use Rattle.repeater_core.proofs.LaterTexts.{texts_idle}
use Rattle.repeater_core.proofs.steady.leap_texts.Goals as goal

pub send-requires-clause-idle : goal.send-requires-clause-idle
send-requires-clause-idle c = λ yes.
    let m : c.args.mode ≡ Idle = grind (arith, common_steps) in
    let heard = c.args.heard.now in
    subst (All (λ s. s ≡ sy.Idle)) (sym (c.write_texts-after.ensures.sent ∙ ap (λ m. texts_after m heard) m ∙ texts_idle heard)) (All-replicate (λ s. s ≡ sy.Idle) (length heard) sy.Idle refl)
