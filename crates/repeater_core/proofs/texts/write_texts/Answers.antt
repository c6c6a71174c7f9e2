use Rattle.std.proofs.Common.{length, replicate, sym, ap, ◌∙◌}
use Rattle.std.specs.Fn.{iterate}
use Rattle.manchester_line.specs.declared.Sym.TheVariants as sy
use Rattle.repeater_core.specs.declared.modes.Mode.TheVariants.{Repeat}
use Rattle.repeater_core.specs.Steady.{mode_on}
use Rattle.repeater_core.specs.Classes.{texts_after}
use Rattle.repeater_core.proofs.LaterTexts.{mode_later, texts_heard, idle_later, texts_idle}
use Rattle.repeater_core.proofs.texts.write_texts.Goals as goal

pub returns-in-Idle-clause-mode : goal.returns-in-Idle-clause-mode
returns-in-Idle-clause-mode c = sym (ap (iterate mode_on (length c.args.heard.now)) c.in-Idle.is ∙ idle_later (length c.args.heard.now))

pub returns-in-Idle-clause-sent : goal.returns-in-Idle-clause-sent
returns-in-Idle-clause-sent c =
    c.fill_idle.ensures ∙ ap (λ n. replicate n sy.Idle) c.requires.sent_len ∙ sym (ap (λ m. texts_after m c.args.heard.now) c.in-Idle.is ∙ texts_idle c.args.heard.now)

pub returns-in-Repeat-clause-mode : goal.returns-in-Repeat-clause-mode
returns-in-Repeat-clause-mode c =
    ap (Repeat c.in-Repeat.n) c.later_count.ensures ∙ sym (mode_later (length c.args.heard.now) c.in-Repeat.n c.in-Repeat.i) ∙ sym (ap (iterate mode_on (length c.args.heard.now)) c.in-Repeat.is)

pub returns-in-Repeat-clause-sent : goal.returns-in-Repeat-clause-sent
returns-in-Repeat-clause-sent c =
    c.copy_from_slice.ensures.after ∙ sym (ap (λ m. texts_after m c.args.heard.now) c.in-Repeat.is ∙ texts_heard c.args.heard.now c.in-Repeat.n c.in-Repeat.i c.if-i-ge-PREAMBLE.true)
