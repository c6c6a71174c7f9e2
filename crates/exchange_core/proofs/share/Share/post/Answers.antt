use Rattle.std.proofs.Common.{◌≡◌, true, false, get_or, refl, ap, sym, subst, ◌∙◌}
use Rattle.net_parts.specs.declared.parcel.Parcel.{Parcel}
use Rattle.net_parts.specs.Parcels.{IsTrueParcel}
use Rattle.exchange_core.specs.Holdings.{vacate_holding}
use Rattle.exchange_core.specs.Shares.{Rack, Held, share_of, part_on, change_on, leaves, parcel_in, is_refilled, posted_parcel, post_held, IsOfPlan, IsWholeShare}
use Rattle.exchange_core.proofs.TakenParcels.{IsEdgeOf, edge_kept, MayPost, may_at_segment, may_at_repeater, leaves_repeater, chosen_first, chosen_second, posted_edge, posted_true, posted_is, posted_whole, posted_new}
use Rattle.exchange_core.proofs.share.Share.post.Given.{Over}
use Rattle.exchange_core.proofs.share.Share.post.Goals.{After-post, After-post-2}
use Rattle.exchange_core.proofs.share.Share.post.Goals as goal

-- at a segment
at_segment : (g : Over) (c : After-post g) → c.post.result ≡ true → MayPost true c.self.inside.segment_spots.parts.items c.self.inside.repeater_spots.parts.items c.self.inside.segments c.self.inside.repeaters c.args.edge c.spot-segment.result.part (get_or c.self.inside.repeater_spots.parts.items c.args.edge 0)
at_segment g c may = may_at_segment _ _ _ _ _ _ _ (edge_kept c.self.invariant c.spot-segment.ensures.part refl) (sym c.post.ensures.value ∙ may)

segment_left : (g : Over) (c : After-post g) → c.post.result ≡ true → c.post.new.self ≡ change_on (vacate_holding c.args.edge) c.spot-segment.result.part c.self.inside.segments
segment_left g c may = chosen_first _ _ _ _ c.post.ensures.left (sym c.post.ensures.value ∙ may)

segment_out : (g : Over) (c : After-post g) → c.post.result ≡ true → c.post.new.parcel ≡ parcel_in c.args.edge (part_on c.spot-segment.result.part c.self.inside.segments)
segment_out g c may = chosen_first _ _ _ _ c.post.ensures.out (sym c.post.ensures.value ∙ may)

-- at a repeater
found : (g : Over) (c : After-post-2 g) → IsEdgeOf c.self.inside.segment_spots.parts.items c.self.inside.repeater_spots.parts.items c.self.inside.segments c.self.inside.repeaters c.args.edge c.spot-segment.result.part c.spot-repeater.result.part
found g c = edge_kept c.self.invariant c.spot-segment.ensures.part c.spot-repeater.ensures.part

stays : (g : Over) (c : After-post-2 g) → leaves c.args.edge (part_on c.spot-segment.result.part c.self.inside.segments) ≡ false
stays g c = sym c.post.ensures.value ∙ c.if-post.false

refilled : (g : Over) (c : After-post-2 g) → is_refilled c.args.edge (share_of c.self.inside.segments c.self.inside.repeaters) ≡ true
refilled g c = subst (λ (x : Held). is_refilled c.args.edge x ≡ true) (sym c.self.view_is) c.requires

at_repeater : (g : Over) (c : After-post-2 g) → MayPost false c.self.inside.segment_spots.parts.items c.self.inside.repeater_spots.parts.items c.self.inside.segments c.self.inside.repeaters c.args.edge c.spot-segment.result.part c.spot-repeater.result.part
at_repeater g c = may_at_repeater _ _ _ _ _ _ _ (found g c) (stays g c) (refilled g c)

segments_stay : (g : Over) (c : After-post-2 g) → c.post.new.self ≡ c.self.inside.segments
segments_stay g c = chosen_second _ _ _ _ c.post.ensures.left (stays g c)

repeater_goes : (g : Over) (c : After-post-2 g) → leaves c.args.edge (part_on c.spot-repeater.result.part c.self.inside.repeaters) ≡ true
repeater_goes g c = leaves_repeater _ _ _ _ _ _ _ (found g c) (stays g c) (refilled g c)

repeater_left : (g : Over) (c : After-post-2 g) → c.post-2.new.self ≡ change_on (vacate_holding c.args.edge) c.spot-repeater.result.part c.self.inside.repeaters
repeater_left g c = chosen_first _ _ _ _ c.post-2.ensures.left (repeater_goes g c)

repeater_out : (g : Over) (c : After-post-2 g) → c.post-2.new.parcel ≡ parcel_in c.args.edge (part_on c.spot-repeater.result.part c.self.inside.repeaters)
repeater_out g c = chosen_first _ _ _ _ c.post-2.ensures.out (repeater_goes g c)

pub invariant_of-self : goal.invariant_of-self
invariant_of-self g c =
    let at = (goal.at.invariant_of-self g c).After-post in
    posted_whole _ _ _ _ _ _ _ _ (at_segment g at c.if-post.true) c.post.new.self (segment_left g at c.if-post.true)

pub returns-then-post-clause-value : goal.returns-then-post-clause-value
returns-then-post-clause-value g c =
    let at = (goal.at.returns-then-post-clause-value g c).After-post in
    segment_out g at c.if-post.true ∙ posted_is _ _ _ _ _ _ _ _ (at_segment g at c.if-post.true) ∙ ap (posted_parcel c.args.edge) c.self.view_is

pub returns-then-post-clause-edge : goal.returns-then-post-clause-edge
returns-then-post-clause-edge g c =
    let at = (goal.at.returns-then-post-clause-edge g c).After-post in
    ap (λ (p : Parcel). p.edge) (segment_out g at c.if-post.true) ∙ posted_edge _ _ _ _ _ _ _ _ (at_segment g at c.if-post.true)

pub returns-then-post-clause-honest : goal.returns-then-post-clause-honest
returns-then-post-clause-honest g c plan of =
    let at = (goal.at.returns-then-post-clause-honest g c).After-post in
    subst (IsTrueParcel plan) (sym (segment_out g at c.if-post.true)) (posted_true _ _ _ _ _ _ _ _ (at_segment g at c.if-post.true) plan (subst (IsOfPlan plan) (sym c.self.view_is) of))

pub returns-then-post-clause-new : goal.returns-then-post-clause-new
returns-then-post-clause-new g c =
    let at = (goal.at.returns-then-post-clause-new g c).After-post in
    posted_new _ _ _ _ _ _ _ _ (at_segment g at c.if-post.true) c.post.new.self (segment_left g at c.if-post.true) ∙ ap (post_held c.args.edge) c.self.view_is

pub invariant_of-self-2 : goal.invariant_of-self-2
invariant_of-self-2 g c =
    let at = (goal.at.invariant_of-self-2 g c).After-post-2 in
    subst (λ (x : Rack). IsWholeShare c.self.inside.segment_spots.parts.items c.self.inside.repeater_spots.parts.items (share_of x c.post-2.new.self)) (sym (segments_stay g at)) (posted_whole _ _ _ _ _ _ _ _ (at_repeater g at) c.post-2.new.self (repeater_left g at))

pub returns-clause-value : goal.returns-clause-value
returns-clause-value g c =
    let at = (goal.at.returns-clause-value g c).After-post-2 in
    repeater_out g at ∙ posted_is _ _ _ _ _ _ _ _ (at_repeater g at) ∙ ap (posted_parcel c.args.edge) c.self.view_is

pub returns-clause-edge : goal.returns-clause-edge
returns-clause-edge g c =
    let at = (goal.at.returns-clause-edge g c).After-post-2 in
    ap (λ (p : Parcel). p.edge) (repeater_out g at) ∙ posted_edge _ _ _ _ _ _ _ _ (at_repeater g at)

pub returns-clause-honest : goal.returns-clause-honest
returns-clause-honest g c plan of =
    let at = (goal.at.returns-clause-honest g c).After-post-2 in
    subst (IsTrueParcel plan) (sym (repeater_out g at)) (posted_true _ _ _ _ _ _ _ _ (at_repeater g at) plan (subst (IsOfPlan plan) (sym c.self.view_is) of))

pub returns-clause-new : goal.returns-clause-new
returns-clause-new g c =
    let at = (goal.at.returns-clause-new g c).After-post-2 in
    ap (λ (x : Rack). share_of x c.post-2.new.self) (segments_stay g at) ∙ posted_new _ _ _ _ _ _ _ _ (at_repeater g at) c.post-2.new.self (repeater_left g at) ∙ ap (post_held c.args.edge) c.self.view_is
