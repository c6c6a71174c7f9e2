use Rattle.std.proofs.Common.{◌≡◌, ℕ, ◌<◌, All, List, ◌++◌, map, take, drop, length, length-take-le, false, true, refl, sym, ap, ap₂, ◌∙◌, arith, subst}
use Rattle.net_parts.specs.Parts.{edges_of_part}
use Rattle.net_parts.specs.Parcels.{true_parcel, arrived, refilled}
use Rattle.turn_run.specs.ParcelsInTurn.{EachStandsOnce, AreExchanged}
use Rattle.turn_run.proofs.ParcelsOnTheirWay.{edges_apart, edges_within, edges_few, in_hand, one_gone, comes_to_segment, goes_from_segment}
use Rattle.turn_run.proofs.ExchangedParcels.{first_in_hand, each_made}
use Rattle.turn_run.proofs.segments.run_segment.Goals as goal

pub exchange-requires-clause-apart : goal.exchange-requires-clause-apart
exchange-requires-clause-apart g c =
    let plan = g.S.Part.plan c.args.segment.now in
    let s = g.S.Part.number c.args.segment.now in
    let es_is : c.edges.result.now ≡ edges_of_part plan s = c.edges.ensures ∙ ap₂ edges_of_part c.in_ok-reserve_window.ensures.plan c.in_ok-reserve_window.ensures.number in
    subst EachStandsOnce (sym es_is) (edges_apart plan s c.requires.segment)

pub exchange-requires-clause-within : goal.exchange-requires-clause-within
exchange-requires-clause-within g c =
    let plan = g.S.Part.plan c.args.segment.now in
    let s = g.S.Part.number c.args.segment.now in
    let es_is : c.edges.result.now ≡ edges_of_part plan s = c.edges.ensures ∙ ap₂ edges_of_part c.in_ok-reserve_window.ensures.plan c.in_ok-reserve_window.ensures.number in
    subst (λ (es : List ℕ). All (λ e. e < length c.args.parcels.now) es) (sym es_is) (edges_within plan s c.requires.segment (length c.args.parcels.now) c.requires.parcels.many)

pub exchange-requires-clause-hand : goal.exchange-requires-clause-hand
exchange-requires-clause-hand g c =
    let plan = g.S.Part.plan c.args.segment.now in
    let s = g.S.Part.number c.args.segment.now in
    let es_is : c.edges.result.now ≡ edges_of_part plan s = c.edges.ensures ∙ ap₂ edges_of_part c.in_ok-reserve_window.ensures.plan c.in_ok-reserve_window.ensures.number in
    let same = ap length es_is in
    let few = edges_few plan s c.requires.segment in
    let many = c.requires.parcels.many in
    let room = c.requires.hand in
    omega (arith, same, few, many, room)

pub slice_bounds-run_window-end : goal.slice_bounds-run_window-end
slice_bounds-run_window-end g c =
    let plan = g.S.Part.plan c.args.segment.now in
    let s = g.S.Part.number c.args.segment.now in
    let es_is : c.edges-many.result.now ≡ edges_of_part plan s = c.edges-many.ensures ∙ ap₂ edges_of_part c.in_ok-reserve_window.ensures.plan c.in_ok-reserve_window.ensures.number in
    let same = ap length es_is in
    let few = edges_few plan s c.requires.segment in
    let many = c.requires.parcels.many in
    let room = c.requires.hand in
    let kept = c.exchange.ensures.room in
    omega (arith, same, few, many, room, kept)

pub slice_bounds-run_window-end-2 : goal.slice_bounds-run_window-end-2
slice_bounds-run_window-end-2 g c =
    let plan = g.S.Part.plan c.args.segment.now in
    let s = g.S.Part.number c.args.segment.now in
    let es_is : c.edges-many.result.now ≡ edges_of_part plan s = c.edges-many.ensures ∙ ap₂ edges_of_part c.in_ok-reserve_window.ensures.plan c.in_ok-reserve_window.ensures.number in
    let same = ap length es_is in
    let few = edges_few plan s c.requires.segment in
    let many = c.requires.parcels.many in
    let room = c.requires.hand in
    let kept = c.exchange.ensures.room in
    sym (length-take-le (length c.edges-many.result.now) c.exchange.new.hand (omega (arith, same, few, many, room, kept)))

pub run_window-requires-clause-parcels : goal.run_window-requires-clause-parcels
run_window-requires-clause-parcels g c =
    let plan = g.S.Part.plan c.args.segment.now in
    let s = g.S.Part.number c.args.segment.now in
    let w = g.S.Part.at c.args.segment.now in
    let es = edges_of_part plan s in
    let p = c.args.parcels.now in
    let h = c.args.hand.now in
    let p₁ = c.exchange.new.parcels in
    let h₁ = c.exchange.new.hand in
    let same_part = ap₂ edges_of_part c.in_ok-reserve_window.ensures.plan c.in_ok-reserve_window.ensures.number in
    let es_is : c.edges.result.now ≡ es = c.edges.ensures ∙ same_part in
    let again : c.edges-many.result.now ≡ es = c.edges-many.ensures ∙ same_part in
    let x : AreExchanged es (length es) p h p₁ h₁ = subst (λ (fs : List ℕ). AreExchanged fs (length fs) p h p₁ h₁) es_is c.exchange.ensures in
    let few = edges_few plan s c.requires.segment in
    let many = c.requires.parcels.many in
    let room = c.requires.hand in
    let kept = c.exchange.ensures.room in
    ap (λ (fs : List ℕ). take (length fs) h₁) again
    ∙ first_in_hand (true_parcel plan false w) es h₁ (omega (arith, few, many, room, kept)) (λ j d l. in_hand plan s c.requires.segment w p h p₁ h₁ h₁ p₁ h₁ c.requires.parcels (length es) refl x j d l)
    ∙ sym (comes_to_segment plan s w c.requires.segment)
    ∙ sym ((λ i. arrived (c.in_ok-reserve_window.ensures.plan i) (c.in_ok-reserve_window.ensures.number i) (c.in_ok-reserve_window.ensures.at i)))

pub exchange-requires-2-clause-apart : goal.exchange-requires-2-clause-apart
exchange-requires-2-clause-apart g c =
    let plan = g.S.Part.plan c.args.segment.now in
    let s = g.S.Part.number c.args.segment.now in
    let es_is : c.edges-2.result.now ≡ edges_of_part plan s =
    c.edges-2.ensures
    ∙ ap₂ edges_of_part c.run_window.ensures.plan c.run_window.ensures.number
    ∙ ap₂ edges_of_part c.in_ok-reserve_window.ensures.plan c.in_ok-reserve_window.ensures.number in
    subst EachStandsOnce (sym es_is) (edges_apart plan s c.requires.segment)

pub exchange-requires-2-clause-within : goal.exchange-requires-2-clause-within
exchange-requires-2-clause-within g c =
    let plan = g.S.Part.plan c.args.segment.now in
    let s = g.S.Part.number c.args.segment.now in
    let es_is : c.edges-2.result.now ≡ edges_of_part plan s =
    c.edges-2.ensures
    ∙ ap₂ edges_of_part c.run_window.ensures.plan c.run_window.ensures.number
    ∙ ap₂ edges_of_part c.in_ok-reserve_window.ensures.plan c.in_ok-reserve_window.ensures.number in
    subst (λ (es : List ℕ). All (λ e. e < length c.exchange.new.parcels) es) (sym es_is)
    (edges_within plan s c.requires.segment (length c.exchange.new.parcels) (c.exchange.ensures.many ∙ c.requires.parcels.many))

pub returns-clause-parcels : goal.returns-clause-parcels
returns-clause-parcels g c =
    let plan = g.S.Part.plan c.args.segment.now in
    let s = g.S.Part.number c.args.segment.now in
    let w = g.S.Part.at c.args.segment.now in
    let es = edges_of_part plan s in
    let p = c.args.parcels.now in
    let h = c.args.hand.now in
    let p₁ = c.exchange.new.parcels in
    let h₁ = c.exchange.new.hand in
    let rest = drop (length c.edges-many.result.now) h₁ in
    let h₂ = c.run_window.new.parcels ++ rest in
    let p₂ = c.exchange-2.new.parcels in
    let h₃ = c.exchange-2.new.hand in
    let same_part = ap₂ edges_of_part c.in_ok-reserve_window.ensures.plan c.in_ok-reserve_window.ensures.number in
    let first_time : c.edges.result.now ≡ es = c.edges.ensures ∙ same_part in
    let again : c.edges-2.result.now ≡ es = c.edges-2.ensures ∙ ap₂ edges_of_part c.run_window.ensures.plan c.run_window.ensures.number ∙ same_part in
    let x : AreExchanged es (length es) p h p₁ h₁ = subst (λ (fs : List ℕ). AreExchanged fs (length fs) p h p₁ h₁) first_time c.exchange.ensures in
    let y : AreExchanged es (length es) p₁ h₂ p₂ h₃ = subst (λ (fs : List ℕ). AreExchanged fs (length fs) p₁ h₂ p₂ h₃) again c.exchange-2.ensures in
    let made : c.run_window.new.parcels ≡ map (true_parcel plan true w) es =
    c.run_window.ensures.parcels
    ∙ (λ i. refilled (c.in_ok-reserve_window.ensures.plan i) (c.in_ok-reserve_window.ensures.number i) (c.in_ok-reserve_window.ensures.at i))
    ∙ goes_from_segment plan s w c.requires.segment in
    one_gone plan s c.requires.segment w p h p₁ h₁ h₂ p₂ h₃ c.requires.parcels (length es) refl x
    (λ j d l. each_made (true_parcel plan true w) es c.run_window.new.parcels rest j d made l) y
