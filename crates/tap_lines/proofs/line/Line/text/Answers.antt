use Rattle.std.proofs.Common.{length, length-append, take, replicate, sym, ap, ◌∙◌, arith, rules}
use Rattle.manchester_line.specs.declared.Sym.TheVariants.{Idle}
use Rattle.tap_lines.specs.Signals.{signals_end, EndsInSignals}
use Rattle.tap_lines.specs.TapLines.{TapLine}
use Rattle.tap_lines.proofs.EndsOfSignals.{end_of_text}
use Rattle.tap_lines.proofs.line.Line.text.Goals as goal

pub returns-clause-end : goal.returns-clause-end
returns-clause-end c =
    let x = c.self.inside in
    let text = take x.written x.buffer.items in
    let ends : EndsInSignals x.loud text = search rules in
    let sum = length-append text (replicate x.quiet Idle) in
    ap signals_end (sym (ap (λ (k : TapLine). k.symbols) c.self.view_is))
    ∙ end_of_text text x.quiet x.loud ends (omega (arith, sum))
    ∙ ap (λ ys. length (take x.written ys)) (sym c.deref.ensures.value)
