use Rattle.std.proofs.Common.{◌≡◌, sym, ◌∙◌, arith}
use Rattle.std.proofs.lemmas.Grind.{common_steps}
use Rattle.repeater_core.proofs.AlikeRows.{flag_at}
use Rattle.repeater_core.proofs.line.row_alike.Goals as goal

pub returns-then-is_signal-clause-differs : goal.returns-then-is_signal-clause-differs
returns-then-is_signal-clause-differs c = λ e.
    let same : c.is_signal.result ≡ c.is_signal-in-loop-k.result =
    c.is_signal.ensures ∙ flag_at c.loop-k.k c.args.head c.args.slots.now c.args.front.now _ _ (omega arith) c.requires.within e ∙ sym c.is_signal-in-loop-k.ensures in
    grind (arith, common_steps)
