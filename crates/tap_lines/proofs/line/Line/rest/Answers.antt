use Rattle.std.proofs.Common.{◌≡◌, ◌+◌, ◌-◌, ◌++◌, take, length, replicate, sym, ap, ◌∙◌, arith, append_assoc}
use Rattle.std.proofs.lemmas.List.{length-replicate, replicate-append-replicate}
use Rattle.manchester_line.specs.declared.Sym.TheVariants.{Idle}
use Rattle.tap_lines.specs.TapLines.{line_extended}
use Rattle.tap_lines.proofs.line.Line.rest.Goals as goal

pub returns : goal.returns
returns c =
    let x = c.self.inside in
    let n = c.args.count in
    let text = take x.written x.buffer.items in
    let all = length x.buffer.items in
    let symbols : text ++ replicate (x.quiet + n) Idle ≡ (text ++ replicate x.quiet Idle) ++ replicate n Idle =
    ap (λ ys. text ++ ys) (sym (replicate-append-replicate x.quiet n Idle)) ∙ sym (append_assoc text (replicate x.quiet Idle) (replicate n Idle)) in
    let size = length-replicate n Idle in
    let room : all - (x.written + (x.quiet + n)) ≡ all - (x.written + x.quiet) - length (replicate n Idle) = omega (arith, size) in
    (λ i. record { at = x.at; delay = x.delay; backlog = x.backlog; base = x.base; symbols = symbols i; room = room i })
    ∙ ap (λ l. line_extended l (replicate n Idle)) c.self.view_is
