use Rattle.std.proofs.Common.{◌≡◌, ◌≤◌, ◌+◌, ◌-◌, ◌++◌, min, take, length, length-append, length-take-le, replicate, sym, ap, ◌∙◌, arith, rules}
use Rattle.std.proofs.lemmas.List.{length-replicate}
use Rattle.manchester_line.specs.declared.Sym.TheVariants.{Idle}
use Rattle.tap_lines.specs.TapLines.{TapLine, line_cut}
use Rattle.tap_lines.specs.Signals.{EndsInSignals}
use Rattle.tap_lines.proofs.EndsOfSignals.{written_is}
use Rattle.tap_lines.proofs.LinesAhead.{cut_unwritten}
use Rattle.tap_lines.proofs.line.Line.cut.Goals as goal

pub returns-else-kept-written : goal.returns-else-kept-written
returns-else-kept-written c =
    let x = c.self.inside in
    let all = length x.buffer.items in
    let text = take x.written x.buffer.items in
    let k = c.args.u - x.base in
    let q = c.min.result in
    let within : x.written + x.quiet ≤ all = search rules in
    let len : length text ≡ x.written = length-take-le x.written x.buffer.items (omega (arith, within)) in
    let long : x.written ≤ k = search rules in
    let left : q ≡ min x.quiet (k - x.written) = search rules in
    let few : q ≡ min x.quiet (k - length text) = omega (arith, left, len) in
    let size : length (text ++ replicate x.quiet Idle) ≡ length text + x.quiet = length-append text (replicate x.quiet Idle) ∙ ap (λ n. length text + n) (length-replicate x.quiet Idle) in
    let symbols : text ++ replicate q Idle ≡ take k (text ++ replicate x.quiet Idle) = ap (λ n. text ++ replicate n Idle) few ∙ sym (cut_unwritten k x.quiet text (omega (arith, long, len))) in
    let room : all - (x.written + q) ≡ all - (x.written + x.quiet) + (length (text ++ replicate x.quiet Idle) - k) = omega (arith, size, len, left, within, long) in
    (λ i. record { at = x.at; delay = x.delay; backlog = x.backlog; base = x.base; symbols = symbols i; room = room i })
    ∙ ap (line_cut c.args.u) c.self.view_is

pub cut_text-requires : goal.cut_text-requires
cut_text-requires c =
    let x = c.self.inside in
    let within : x.written + x.quiet ≤ length x.buffer.items = search rules in
    let ends : EndsInSignals x.loud (take x.written x.buffer.items) = search rules in
    let written = written_is x.buffer.items c.args.self.now.symbols x.written x.quiet x.loud within ends (ap (λ (l : TapLine). l.symbols) c.self.view_is) in
    let less = c.if-kept-written.true in
    omega (arith, less, written)
