use Rattle.std.proofs.Common.{◌≡◌, ◌+◌, ◌<◌, ◌≤◌, inl, inr, length, get_or, sym, ap, ◌∙◌, rules}
use Rattle.std.proofs.lemmas.List.{get_or_default, get_or_past}
use Rattle.std.proofs.lemmas.Bool.{cases_lt}
use Rattle.manchester_line.specs.declared.Sym.TheVariants.{Idle}
use Rattle.manchester_line.specs.Line.{mix_of}
use Rattle.tap_lines.proofs.HeardLines.{mix_idle}
use Rattle.tap_lines.proofs.Mixes.{mixed_more}
use Rattle.tap_lines.proofs.line.mix_from.Goals as goal

pub loop-j-preserved : goal.loop-j-preserved
loop-j-preserved c =
    let j = c.loop-j.j in
    let xs = c.args.symbols.now in
    let test = c.loop-j-test.true in
    let len = c.loop-j.invariant.len in
    let first = c.min-first.result in
    let few = c.min-count.ensures in
    let h : j < length c.loop-j.piece = search rules in
    let there : first + j < length xs = search rules in
    mixed_more (λ i. get_or xs (first + i) Idle) c.args.piece.now c.loop-j.piece j c.mix.result _ h
    (c.mix.ensures ∙ ap (mix_of _) (get_or_default xs (first + j) _ Idle there)) c.loop-j.invariant

pub returns : goal.returns
returns c = λ i d l.
    let xs = c.args.symbols.now in
    let first = c.min-first.ensures in
    let count = c.min-count.ensures in
    let ended = c.loop-j-test.false in
    let inv = c.loop-j.invariant in
    let len = inv.len in
    elim (cases_lt i c.loop-j.j) [
      | inl before ↦
          let e : c.min-first.result + i ≡ c.args.from + i = search rules in
          inv.done i d before ∙ ap (λ x. mix_of (get_or c.args.piece.now i d) (get_or xs x Idle)) e
      | inr after ↦
          let past : length xs ≤ c.args.from + i = search rules in
          inv.left i d after ∙ sym (ap (mix_of (get_or c.args.piece.now i d)) (get_or_past xs (c.args.from + i) Idle past) ∙ mix_idle (get_or c.args.piece.now i d))
    ]
