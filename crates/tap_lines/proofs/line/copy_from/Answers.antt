use Rattle.std.proofs.Common.{rules, ◌≡◌, ◌<◌, ◌≤◌, ◌+◌, ◌-◌, inl, inr, length, length-drop, length-take-le, drop, get_or, sym, ap, ◌∙◌, arith}
use Rattle.std.proofs.lemmas.Bool.{cases_lt}
use Rattle.std.proofs.lemmas.List.{get_or_append_left, get_or-append_right, get_or-take, get_or-drop, get_or_past, get_or_default}
use Rattle.manchester_line.specs.declared.Sym.TheVariants.{Idle}
use Rattle.tap_lines.proofs.line.copy_from.Goals as goal

pub returns : goal.returns
returns c = λ j d l.
    let xs = c.args.symbols.now in
    let ps = c.args.piece.now in
    let first = c.min-first.result in
    let count = c.min-count.result in
    let piece = c.copy_from_slice.new.self in
    let hf = c.min-first.ensures in
    let hc = c.min-count.ensures in
    let few : count ≤ length ps = omega (arith, hc) in
    let size : length piece ≡ count = c.copy_from_slice.ensures.len ∙ length-take-le count ps few in
    let dl = length-drop count ps in
    let all : j < length ps = search rules in
    elim (cases_lt j count) [
      | inl before ↦
          let there : first + j < length xs = omega (arith, hf, hc, before) in
          let e : first + j ≡ c.args.from + j = omega (arith, hf, hc, before) in
          get_or_append_left piece (drop count ps) d j (omega (arith, before, size))
          ∙ ap (λ zs. get_or zs j d) c.copy_from_slice.ensures.after
          ∙ get_or-take (first + count - first) (drop first xs) j d (omega (arith, before))
          ∙ get_or-drop first xs j d
          ∙ get_or_default xs (first + j) d Idle there
          ∙ ap (λ i. get_or xs i Idle) e
      | inr after ↦
          let past : length xs ≤ c.args.from + j = omega (arith, hf, hc, after, all) in
          get_or-append_right piece (drop count ps) count j d size after
          ∙ get_or-drop count ps (j - count) d
          ∙ c.requires (count + (j - count)) d (omega (arith, after, all))
          ∙ sym (get_or_past xs (c.args.from + j) Idle past)
    ]
