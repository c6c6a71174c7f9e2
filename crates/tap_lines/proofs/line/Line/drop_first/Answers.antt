use Rattle.std.proofs.Common.{◌≡◌, ◌≤◌, ◌+◌, ◌-◌, min, take, drop, length, length-take-le, get_or, sym, ap, ◌∙◌, arith, rules}
use Rattle.tap_lines.specs.TapLines.{TapLine, dropped_from}
use Rattle.tap_lines.proofs.ExtendedLines.{dropped_unwritten, unwritten_size, moved_front}
use Rattle.tap_lines.proofs.line.Line.drop_first.Goals as goal

pub returns : goal.returns
returns c =
    let x = c.self.inside in
    let old = x.buffer.items in
    let new = c.copy_within.new.self.items in
    let w = x.written in
    let gone = c.args.gone in
    let first = c.min-first.result in
    let room = length old - (w + x.quiet) in
    let within : w + x.quiet ≤ length old = search rules in
    let number : first ≡ min gone w = search rules in
    let size : length (take w old) ≡ w = length-take-le w old (omega (arith, within)) in
    let all : length c.args.self.now.symbols ≡ w + x.quiet = ap (λ (l : TapLine). length l.symbols) (sym c.self.view_is) ∙ unwritten_size x.quiet (take w old) ∙ ap (λ n. n + x.quiet) size in
    let few : gone ≤ w + x.quiet = let h = c.requires.few in omega (arith, h, all) in
    let len : length new ≡ length old = search rules in
    let rest : take (w - first) new ≡ drop gone (take w old) = moved_front old new w first gone (omega (arith, within)) number len (λ k d h.
    let same : first + (k - 0) ≡ first + k = omega arith in
    c.copy_within.ensures.by_index.0 k d (omega arith) (omega (arith, h)) ∙ ap (λ i. get_or old i d) same) in
    let left : x.quiet - (gone - first) ≡ x.quiet - (gone - min gone (length (take w old))) = omega (arith, number, size) in
    let more : length new - (w - first + (x.quiet - (gone - first))) ≡ room + gone = omega (arith, within, number, len, few) in
    dropped_unwritten x.at x.delay x.backlog x.base room x.quiet (x.quiet - (gone - first)) gone (take w old) (take (w - first) new) rest left (length new - (w - first + (x.quiet - (gone - first)))) more
    ∙ ap (dropped_from gone) c.self.view_is
