use Rattle.std.proofs.Common.{◌≡◌, ◌≤◌, ◌<◌, ◌+◌, ◌++◌, ◌∷◌, [], true, ap, ◌∙◌, sym, subst, arith, length, map, get_or}
use Rattle.std.specs.Prelude.{None, vec_len, vec_capacity, is_ok, if◌then◌else◌}
use Rattle.std.proofs.lemmas.List.{take_all, get_or_default}
use Rattle.exchange_core.specs.Shares.{rack, handed, handed_as, handed_out, IsAddedInOrder}
use Rattle.exchange_core.proofs.HandedParts.{answered, owned_now, rest_next, told_next}
use Rattle.exchange_core.proofs.lane.PartsOfKind.into_parts.Given.{Over}
use Rattle.exchange_core.proofs.lane.PartsOfKind.into_parts.Goals.{After-as_slice-numbers}
use Rattle.exchange_core.proofs.lane.PartsOfKind.into_parts.Goals as goal

added : (g : Over) (c : After-as_slice-numbers g) → IsAddedInOrder (rack c.self.inside.places.items c.as_slice-numbers.result.now)
added g c =
    subst IsAddedInOrder (sym c.self.view_is ∙ ap (rack c.self.inside.places.items) (sym c.as_slice-numbers.ensures.value)) (record { owned = c.requires.owned; apart = c.requires.apart })

pub take_out-requires-after_bounds : goal.take_out-requires-after_bounds
take_out-requires-after_bounds g c κs within =
    let numbers = c.as_slice-numbers.result.now in
    let l = c.loop-part in
    let at = (goal.at.take_out-requires-after_bounds g c).After-as_slice-numbers in
    owned_now c.self.inside.places.items numbers (added g at) l.places.items l.part-index (get_or numbers l.part-index 0) c.loop-part-test.true l.invariant.rest (get_or_default numbers l.part-index 0 _ c.loop-part-test.true)

pub loop-part-preserved : goal.loop-part-preserved
loop-part-preserved g c =
    let places = c.self.inside.places.items in
    let numbers = c.as_slice-numbers.result.now in
    let l = c.loop-part in
    let o = added g (goal.at.loop-part-preserved g c).After-as_slice-numbers in
    let below = c.loop-part-test.true in
    let f = λ (p : g.row.P.Denot). handed_as (g.P.Part.plan p) (g.P.Part.number p) (g.P.Part.at p) in
    let part = get_or numbers l.part-index 0 in
    let is : part ≡ get_or numbers l.part-index part = get_or_default numbers l.part-index 0 part below in
    let room = l.invariant.room in
    let count = l.invariant.count in
    let wide = c.push.ensures.capacity in
    let ok : is_ok c.push.result ≡ true = answered c.push.result (vec_capacity l.spare ≤ vec_len l.spare) c.push.ensures.full (λ h. omega (arith, h, room, count, below)) in
    let items : c.push.new.self.items ≡ l.spare.items ++ c.take_out.result ∷ [] = c.push.ensures.items ∙ ap (λ b. if b then l.spare.items ++ c.take_out.result ∷ [] else l.spare.items) ok in
    let more : vec_len c.push.new.self ≡ vec_len l.spare + 1 = c.push.ensures.len ∙ ap (λ b. if b then vec_len l.spare + 1 else vec_len l.spare) ok in
    record {
      told = told_next places numbers o l.places.items l.part-index part below l.invariant.rest is f l.spare.items c.push.new.self.items c.take_out.result l.invariant.told c.take_out.ensures.value items;
      rest = rest_next places numbers o l.places.items l.part-index part below l.invariant.rest is c.take_out.new.places.items c.take_out.ensures.rest;
      count = omega (arith, more, count);
      room = omega (arith, room, wide);
    }

pub returns : goal.returns
returns g c =
    let numbers = c.as_slice-numbers.result.now in
    let places = c.self.inside.places.items in
    let l = c.loop-part in
    l.invariant.told
    ∙ ap (map (λ u. handed (get_or places u None))) (take_all l.part-index numbers c.loop-part-test.false ∙ c.as_slice-numbers.ensures.value)
    ∙ ap handed_out c.self.view_is
