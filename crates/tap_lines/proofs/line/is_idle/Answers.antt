use Rattle.std.proofs.Common.{length, replicate, sym, ◌∙◌, arith}
use Rattle.std.proofs.lemmas.List.{length-replicate, get_or-replicate, same_lists, get_or_default}
use Rattle.manchester_line.specs.declared.Sym.TheVariants.{Idle}
use Rattle.tap_lines.proofs.line.is_idle.Goals as goal

pub returns-clause-idle : goal.returns-clause-idle
returns-clause-idle c = λ yes.
    let xs = c.args.piece.now in
    let n = length xs in
    let ended = c.loop-symbol-test.false in
    same_lists xs (replicate n Idle) (sym (length-replicate n Idle)) (λ j d h.
    sym (get_or_default xs j Idle d h) ∙ c.loop-symbol.invariant.idle yes j (omega (arith, h, ended)) ∙ sym (get_or-replicate n j Idle d h))
