use Rattle.std.proofs.Common.{◌≡◌, ◌∷◌, sym, ap, subst, ◌∙◌, rules}
use Rattle.std.specs.Vec.Iter.{into_iter_items}
use Rattle.net_parts.specs.OutputsOfParts.{rows_of_part, captures_of_part}
use Rattle.net_parts.specs.Windows.{windows}
use Rattle.turn_run.proofs.PartsOneByOne.{handed_on, first_and_rest}
use Rattle.window_run.proofs.parts.collect_parts.Goals as goal

pub loop-part-preserved : goal.loop-part-preserved
loop-part-preserved g c =
    let items = into_iter_items c.loop-part.part-iterator in
    let after = into_iter_items c.next.new.self in
    let x = c.in-Some.part in
    let comes : items ≡ x ∷ after = search rules in
    let i = c.loop-part.invariant in
    let here = first_and_rest (λ s. g.K.Part.at s.part ≡ windows (g.K.Part.plan s.part)) items after x comes i.0 in
    let same : c.into_part.result ≡ x.part = c.into_part.ensures in
    let last = subst (λ p. g.K.Part.at p ≡ windows (g.K.Part.plan p)) (sym same) here.0 in (
      here.1,
      handed_on (λ s. rows_of_part (g.K.Part.plan s.part) (g.K.Part.number s.part)) items after x _ _ c.in_ok-outputs.outputs.rows _ comes i.1 c.in_ok-push.ensures.ok
          (c.in_ok-outputs.ensures.rows last ∙ ap (λ p. rows_of_part (g.K.Part.plan p) (g.K.Part.number p)) same),
      handed_on (λ s. captures_of_part (g.K.Part.plan s.part) (g.K.Part.number s.part)) items after x _ _ c.in_ok-outputs.outputs.captures _ comes i.2 (search rules)
          (c.in_ok-outputs.ensures.captures last ∙ ap (λ p. captures_of_part (g.K.Part.plan p) (g.K.Part.number p)) same),
    )
