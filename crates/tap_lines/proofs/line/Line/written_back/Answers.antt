use Rattle.std.proofs.Common.{◌≡◌, ◌+◌, ◌-◌, ◌≤◌, length, take, drop, ap, ◌∙◌, arith, rules}
use Rattle.tap_lines.proofs.LinesAhead.{back_piece}
use Rattle.tap_lines.proofs.line.Line.written_back.Goals as goal

pub returns-clause-piece : goal.returns-clause-piece
returns-clause-piece c =
    let l = c.args.self.now in
    let xs = c.text-text.result.now in
    let t = c.args.t in
    let back = c.args.back in
    let count = c.args.count in
    let first = t - back - l.base in
    let low : back ≤ t = search rules in
    let high : l.base ≤ t - back = search rules in
    let room : first + count ≤ length xs = search rules in
    let n : first + count - first ≡ count = omega arith in
    let base : c.self.inside.base ≡ l.base = search rules in
    ap (λ b. take (t - back - b + count - (t - back - b)) (drop (t - back - b) xs)) base
    ∙ back_piece l xs (length l.symbols - length xs) t back count (first + count - first) c.text-text.ensures.text low high room n
