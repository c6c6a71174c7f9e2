use Rattle.std.proofs.Common.{◌≡◌, ◌+◌, ◌-◌, ◌≤◌, length, ◌<◌, sym, get_or, ap, ◌∙◌, rules}
use Rattle.manchester_line.specs.declared.Sym.TheVariants.{Idle}
use Rattle.manchester_line.specs.Line.{mix_of}
use Rattle.network.specs.Times.{earlier}
use Rattle.tap_lines.specs.TapLines.{symbol_on, half_bits_back}
use Rattle.tap_lines.proofs.LinesAhead.{back_is}
use Rattle.tap_lines.proofs.line.Line.mix_over.Goals as goal

pub returns-then-fresh : goal.returns-then-fresh
returns-then-fresh c = λ j d h.
    let l = c.args.self.now in
    let xs = c.text.result.now in
    let t = c.args.t in
    let back = c.back-back.result in
    let low : back ≤ t = search rules in
    let high : l.base ≤ t - back = search rules in
    let all : j < length c.args.piece.now = search rules in
    let base : c.self.inside.base ≡ l.base = search rules in
    c.copy_from.ensures j d h
    ∙ ap (λ b. get_or xs (t - back - b + j) Idle) base
    ∙ back_is l xs (length l.symbols - length xs) t back j c.text.ensures.text low high
    ∙ ap (λ b. earlier (symbol_on l) (t + j) b) c.back-back.ensures
    ∙ sym (ap (λ s. mix_of s (earlier (symbol_on l) (t + j) (half_bits_back c.args.lookahead c.args.at l))) (c.requires.fresh c.if-fresh.true j d all))

pub returns-else-fresh : goal.returns-else-fresh
returns-else-fresh c = λ j d h.
    let l = c.args.self.now in
    let xs = c.text-else-fresh.result.now in
    let t = c.args.t in
    let back = c.back-back.result in
    let low : back ≤ t = search rules in
    let high : l.base ≤ t - back = search rules in
    let base : c.self.inside.base ≡ l.base = search rules in
    c.mix_from.ensures j d h
    ∙ ap (mix_of (get_or c.args.piece.now j d))
    (ap (λ b. get_or xs (t - back - b + j) Idle) base
    ∙ back_is l xs (length l.symbols - length xs) t back j c.text-else-fresh.ensures.text low high
    ∙ ap (λ b. earlier (symbol_on l) (t + j) b) c.back-back.ensures)
