-- What a share is in which a parcel went from the one part of its edge to the other. A kind is true for segments.
use Rattle.std.proofs.Common.{◌≡◌, ℕ, ◌<◌, Bool, true, false, not, cond, List, length, set, get_or, refl, sym, ap, ap₂, ◌∙◌, subst, true≢false}
use Rattle.std.specs.Prelude.{Option, Some, None, IfSome, ◌&&◌, if◌then◌else◌}
use Rattle.std.proofs.lemmas.List.{set-set, set-get_or, get_or_default}
use Rattle.load_plan.specs.declared.plan.Plan.{Plan}
use Rattle.net_parts.specs.declared.parcel.Parcel.{Parcel}
use Rattle.net_parts.specs.Parts.{is_segment_part}
use Rattle.net_parts.specs.Parcels.{IsTrueParcel}
use Rattle.net_parts.specs.Boards.{has_edge, place_in}
use Rattle.exchange_core.specs.Holdings.{Holding, edges_of_parcels, place_of_edge, absent_parcel, is_here, vacate_holding, take_holding}
use Rattle.exchange_core.specs.Shares.{Rack, rack, Held, share_of, part_on, changed, change_on, has_place, first_with_edge, may_post, is_same_way, leaves, parcel_in, is_refilled, posted_parcel, post_held, take_held, received, received_on, carry_held, IsOfPlan, IsWholeShare}
use Rattle.exchange_core.proofs.SoundHoldings.{edges_set}
use Rattle.exchange_core.proofs.ChangedRacks.{found_changed, some_part, without_place, may_post_first}
use Rattle.exchange_core.proofs.SidedShares.{sided}
use Rattle.exchange_core.proofs.TakenParcels.{IsEdgeOf, MayTake, MayPost, whole_taken, new_taken, may_at_segment, may_at_repeater, posted_edge, posted_true, posted_is, posted_whole, posted_new, refilled_segment, refilled_repeater, place_at}

-- a parcel that has left leaves nothing more
vacated_twice : (e : ℕ) (h : Holding) → has_edge (edges_of_parcels h.parcels) e ≡ true → vacate_holding e (vacate_holding e h) ≡ vacate_holding e h
vacated_twice e h has =
    let k = place_of_edge e h in
    let gone = absent_parcel (is_segment_part h.plan h.number) e in
    let place : place_of_edge e (vacate_holding e h) ≡ k = ap (λ es. place_in es e) (edges_set e h.parcels gone refl has) in
    (λ i. let x : Holding = record h { parcels = set (set h.parcels k gone) (place i) gone; away = set (set h.away k true) (place i) true } in x)
    ∙ (λ i. let x : Holding = record h { parcels = set-set h.parcels k gone gone i; away = set-set h.away k true true i } in x)

changed_twice : (f : Holding → Holding) (u : ℕ) (r : Rack) (h : Holding) → part_on u r ≡ Some h → f (f h) ≡ f h → change_on f u (change_on f u r) ≡ change_on f u r
changed_twice f u r h is same =
    let y = change_on f u r in
    let at : part_on u y ≡ Some (f h) = found_changed r f u ∙ ap (changed f) is in
    let stays : changed f (part_on u y) ≡ part_on u y = ap (changed f) at ∙ ap (λ g. let o : Option Holding = Some g in o) same ∙ sym at in
    ap (λ os. rack os r.order) (ap (λ o. set y.places u o) stays ∙ set-get_or y.places u None)

left_again : (e u : ℕ) (r x : Rack) → x ≡ change_on (vacate_holding e) u r → has_place e (part_on u r) ≡ true
    → x ≡ (if has_place e (part_on u x) then change_on (vacate_holding e) u x else x)
left_again e u r x is has = elim (has_place e (part_on u x)) as (λ b. x ≡ (if b then change_on (vacate_holding e) u x else x)) [
  | true ↦ some_part (part_on u r) (without_place e (part_on u r) has) (x ≡ change_on (vacate_holding e) u x)
      (λ h at. is ∙ sym (changed_twice (vacate_holding e) u r h at (vacated_twice e h (sym (ap (has_place e) at) ∙ has))) ∙ ap (change_on (vacate_holding e) u) (sym is))
  | false ↦ refl
]

-- a look at the place of a number gives the part of that number, and changes there are changes of that part
module _ (os : List (Option Holding)) (order : List ℕ) (now : Rack) (view : rack os order ≡ now) (u : ℕ) (was : Option Holding)
    (in' : u < length os) (at : was ≡ get_or os u was) where
  looked_at : was ≡ get_or os u None
  looked_at = at ∙ get_or_default os u was None in'

  pub part_in_place : was ≡ part_on u now
  part_in_place = looked_at ∙ ap (part_on u) view

  pub changed_if : (goes : Option Holding → Bool) (f : Holding → Holding) (o : Option Holding)
      → o ≡ (if goes was then changed f was else was) → rack (set os u o) order ≡ (if goes (part_on u now) then change_on f u now else now)
  changed_if goes f o is =
      let r = rack os order in
      let is' : o ≡ (if goes (part_on u r) then changed f (part_on u r) else part_on u r) = is ∙ ap (λ x. if goes x then changed f x else x) looked_at in
      elim (goes (part_on u r)) as (λ b. o ≡ (if b then changed f (part_on u r) else part_on u r) → rack (set os u o) order ≡ (if b then change_on f u r else r)) [
        | true ↦ λ q. ap (λ x. rack (set os u x) order) q
        | false ↦ λ q. ap (λ xs. rack xs order) (ap (λ x. set os u x) q ∙ set-get_or os u None)
      ] is' ∙ ap (λ (x : Rack). if goes (part_on u x) then change_on f u x else x) view

-- a parcel comes to a part of this kind, and the other part of its edge has none
module _ (k : Bool) (so ro : List ℕ) (a b : Rack) (p : Parcel) (s r : ℕ) (f : IsEdgeOf so ro a b p.edge s r) (way : p.to_repeater ≡ not k)
    (honest : (h : Holding) → part_on (cond k s r) (cond k a b) ≡ Some h → IsTrueParcel h.plan p)
    (gone : cond k b a ≡ (if has_place p.edge (part_on (cond k r s) (cond k b a)) then change_on (vacate_holding p.edge) (cond k r s) (cond k b a) else cond k b a))
    (y : Rack) (is : y ≡ (if has_place p.edge (part_on (cond k s r) (cond k a b)) then change_on (take_holding p) (cond k s r) (cond k a b) else cond k a b)) where
  plan_at : (j : Bool) (plan : Plan) → IsOfPlan plan (share_of a b) → (h : Holding) → part_on (cond j s r) (cond j a b) ≡ Some h → h.plan ≡ plan
  plan_at true plan of h at = of true s h at
  plan_at false plan of h at = of false r h at

  may : has_place p.edge (part_on (cond k s r) (cond k a b)) ≡ true → MayTake so ro a b p s r
  may has = record {
    edge = f;
    owned = sym (place_at so ro a b p.edge s r f k p refl way) ∙ has;
    honest = λ plan of. some_part (part_on (cond k s r) (cond k a b)) (without_place p.edge (part_on (cond k s r) (cond k a b)) has) (IsTrueParcel plan p)
        (λ h at. subst (λ x. IsTrueParcel x p) (plan_at k plan of h at) (honest h at));
  }

  together : (j : Bool) → share_of (cond j (cond j a b) (cond j b a)) (cond j (cond j b a) (cond j a b)) ≡ share_of a b
  together true = refl
  together false = refl

  pub whole_received : IsWholeShare so ro (share_of (cond k y (cond k b a)) (cond k (cond k b a) y))
  whole_received = elim (has_place p.edge (part_on (cond k s r) (cond k a b))) as (λ x. has_place p.edge (part_on (cond k s r) (cond k a b)) ≡ x
      → y ≡ (if x then change_on (take_holding p) (cond k s r) (cond k a b) else cond k a b) → IsWholeShare so ro (share_of (cond k y (cond k b a)) (cond k (cond k b a) y))) [
        | true ↦ λ has q. whole_taken k so ro a b p s r (may has) way y (cond k b a) q gone
        | false ↦ λ none q. subst (IsWholeShare so ro) (sym (ap (λ z. share_of (cond k z (cond k b a)) (cond k (cond k b a) z)) q ∙ together k)) f.whole
      ] refl is

  pub new_received : share_of (cond k y (cond k b a)) (cond k (cond k b a) y) ≡ received p (share_of a b)
  new_received = elim (has_place p.edge (part_on (cond k s r) (cond k a b))) as (λ x. has_place p.edge (part_on (cond k s r) (cond k a b)) ≡ x
      → y ≡ (if x then change_on (take_holding p) (cond k s r) (cond k a b) else cond k a b) → share_of (cond k y (cond k b a)) (cond k (cond k b a) y) ≡ received p (share_of a b)) [
        | true ↦ λ has q. new_taken k so ro a b p s r (may has) way y (cond k b a) q gone
            ∙ sym (ap (λ x. if x then take_held p (share_of a b) else share_of a b) (may has).owned)
        | false ↦ λ none q. ap (λ z. share_of (cond k z (cond k b a)) (cond k (cond k b a) z)) q ∙ together k
            ∙ sym (ap (λ x. if x then take_held p (share_of a b) else share_of a b) (sym (place_at so ro a b p.edge s r f k p refl way) ∙ none))
      ] refl is

first : (x y : Bool) → (x && y) ≡ true → x ≡ true
first true y h = refl
first false y h = absurd (true≢false (sym h))

second : (x y : Bool) → (x && y) ≡ true → y ≡ true
second true y h = h
second false y h = absurd (true≢false (sym h))

same_ways : (x y : Bool) → is_same_way x y ≡ true → x ≡ y
same_ways true y h = sym h
same_ways false true h = absurd (true≢false (sym h))
same_ways false false h = refl

-- a parcel that leaves goes to a part of the other kind
leaving_way : (k : Bool) (so ro : List ℕ) (a b : Rack) (e s r : ℕ) → IsEdgeOf so ro a b e s r → leaves e (part_on (cond k s r) (cond k a b)) ≡ true
    → (parcel_in e (part_on (cond k s r) (cond k a b))).to_repeater ≡ k
leaving_way k so ro a b e s r f goes =
    let o = part_on (cond k s r) (cond k a b) in
    some_part o (without_place e o (first (has_place e o) (may_post e o) goes)) ((parcel_in e o).to_repeater ≡ k) (λ h at.
    ap (λ z. (parcel_in e z).to_repeater) at
    ∙ same_ways (parcel_in e (Some h)).to_repeater (is_segment_part h.plan h.number) (second _ _ (sym (ap (may_post e) at) ∙ second (has_place e o) (may_post e o) goes))
    ∙ ((sided k so ro a b f.whole).each (cond k s r) h at).kind_is)

if_each : (o : Option Holding) (P : Holding → Type 0) → ((h : Holding) → o ≡ Some h → P h) → IfSome o P
if_each None P f = tt
if_each (Some h) P f = f h refl

-- two parcels of one edge never leave
is_here_where : (e : ℕ) (o : Option Holding) (h : Holding) → o ≡ Some h → leaves e o ≡ true → is_here e h ≡ true
is_here_where e o h at goes =
    first (is_here e h) (is_same_way (parcel_in e (Some h)).to_repeater (is_segment_part h.plan h.number)) (sym (ap (may_post e) at) ∙ second (has_place e o) (may_post e o) goes)

one_leaves : (so ro : List ℕ) (a b : Rack) (e s r : ℕ) → IsEdgeOf so ro a b e s r → leaves e (part_on r b) ≡ true → leaves e (part_on s a) ≡ false
one_leaves so ro a b e s r f goes = elim (leaves e (part_on s a)) as (λ x. leaves e (part_on s a) ≡ x → x ≡ false) [
  | true ↦ λ also.
      some_part (part_on s a) (without_place e (part_on s a) (first (has_place e (part_on s a)) (may_post e (part_on s a)) also)) (true ≡ false) (λ g at.
      some_part (part_on r b) (without_place e (part_on r b) (first (has_place e (part_on r b)) (may_post e (part_on r b)) goes)) (true ≡ false) (λ h at'.
      absurd (f.whole.sound.once e s r g h at at' (is_here_where e (part_on s a) g at also) (is_here_where e (part_on r b) h at' goes))))
  | false ↦ λ _. refl
] refl

-- The share is whole, and the parcel was carried in it, if it leaves.
pub record IsCarried (so ro : List ℕ) (a b : Rack) (e : ℕ) (goes : Bool) (x y : Rack) : Type 0 where
  pub whole : IsWholeShare so ro (share_of x y)
  pub new : share_of x y ≡ (if goes then carry_held e (share_of a b) else share_of a b)

-- from a part of this kind to one of the other
module _ (so ro : List ℕ) (a b : Rack) (e s r : ℕ) (f : IsEdgeOf so ro a b e s r) where
  pub goes_at : (k : Bool) → leaves e (part_on (cond k s r) (cond k a b)) ≡ may_post e (first_with_edge e (cond k a b).places)
  goes_at true = sym (may_post_first so a f.whole.segments_known e s f.segment)
  goes_at false = sym (may_post_first ro b f.whole.repeaters_known e r f.repeater)

  of_plan : (k : Bool) (h : Holding) → part_on (cond k s r) (cond k a b) ≡ Some h → IsOfPlan h.plan (share_of a b)
  of_plan true h at = λ j v g gis. f.whole.sound.plans j true v s g h gis at
  of_plan false h at = λ j v g gis. f.whole.sound.plans j false v r g h gis at

  may_from : (k : Bool) → leaves e (part_on (cond k s r) (cond k a b)) ≡ true → MayPost k so ro a b e s r × (is_refilled e (share_of a b) ≡ true)
  may_from true goes = (may_at_segment so ro a b e s r f goes, sym (refilled_segment so ro a b e s r f (leaves e (part_on s a)) refl goes) ∙ goes)
  may_from false goes =
      let stays = one_leaves so ro a b e s r f goes in
      let refilled = sym (refilled_repeater so ro a b e s r f (leaves e (part_on s a)) (leaves e (part_on r b)) refl stays refl) ∙ goes in
      (may_at_repeater so ro a b e s r f stays refilled, refilled)

  module _ (k : Bool) (goes : leaves e (part_on (cond k s r) (cond k a b)) ≡ true) where
    abbrev out : Parcel
    out = parcel_in e (part_on (cond k s r) (cond k a b))

    from : MayPost k so ro a b e s r
    from = (may_from k goes).0

    out_edge : out.edge ≡ e
    out_edge = posted_edge k so ro a b e s r from

    out_honest : (j : Bool) (h : Holding) → part_on (cond j s r) (cond j a b) ≡ Some h → IsTrueParcel h.plan out
    out_honest j h at = posted_true k so ro a b e s r from h.plan (of_plan j h at)

    to_end : (t : Held) → t ≡ post_held e (share_of a b) → received out t ≡ carry_held e (share_of a b)
    to_end t new = ap₂ received (posted_is k so ro a b e s r from) new ∙ sym (ap (λ z. if z then received (posted_parcel e (share_of a b)) (post_held e (share_of a b)) else share_of a b) (may_from k goes).1)

    module _ (x : Rack) (left : x ≡ change_on (vacate_holding e) (cond k s r) (cond k a b)) where
      out_left : x ≡ (if has_place out.edge (part_on (cond k s r) x) then change_on (vacate_holding out.edge) (cond k s r) x else x)
      out_left = subst (λ n. x ≡ (if has_place n (part_on (cond k s r) x) then change_on (vacate_holding n) (cond k s r) x else x)) (sym out_edge) (left_again e (cond k s r) (cond k a b) x left from.has)

      out_posted : IsEdgeOf so ro (cond k x a) (cond k b x) out.edge s r
      out_posted = record {
        whole = posted_whole k so ro a b e s r from x left;
        segment = f.segment ∙ ap (λ n. get_or so n 0) (sym out_edge);
        repeater = f.repeater ∙ ap (λ n. get_or ro n 0) (sym out_edge);
      }

  carried : (k : Bool) → leaves e (part_on (cond k s r) (cond k a b)) ≡ true → (x y : Rack) → x ≡ change_on (vacate_holding e) (cond k s r) (cond k a b)
      → y ≡ received_on (parcel_in e (part_on (cond k s r) (cond k a b))) (cond k r s) (cond k b a) → IsCarried so ro a b e true (cond k x y) (cond k y x)
  carried true goes x y left come =
      let p = parcel_in e (part_on s a) in
      let at = out_posted true goes x left in
      let way = leaving_way true so ro a b e s r f goes in
      record {
        whole = whole_received false so ro x b p s r at way (out_honest true goes false) (out_left true goes x left) y come;
        new = new_received false so ro x b p s r at way (out_honest true goes false) (out_left true goes x left) y come ∙ to_end true goes (share_of x b) (posted_new true so ro a b e s r (from true goes) x left);
      }
  carried false goes x y left come =
      let p = parcel_in e (part_on r b) in
      let at = out_posted false goes x left in
      let way = leaving_way false so ro a b e s r f goes in
      record {
        whole = whole_received true so ro a x p s r at way (out_honest false goes true) (out_left false goes x left) y come;
        new = new_received true so ro a x p s r at way (out_honest false goes true) (out_left false goes x left) y come ∙ to_end false goes (share_of a x) (posted_new false so ro a b e s r (from false goes) x left);
      }

  same_share : (x y : Rack) → x ≡ a → y ≡ b → IsCarried so ro a b e false x y
  same_share x y is is' = let same : share_of x y ≡ share_of a b = ap₂ share_of is is' in record { whole = subst (IsWholeShare so ro) (sym same) f.whole; new = same }

  stays_there : (k : Bool) (x y : Rack) → x ≡ cond k a b → y ≡ cond k b a → IsCarried so ro a b e false (cond k x y) (cond k y x)
  stays_there true x y is is' = same_share x y is is'
  stays_there false x y is is' = same_share y x is' is

  pub fits : (k : Bool) → leaves e (part_on (cond k s r) (cond k a b)) ≡ true → IfSome (part_on (cond k r s) (cond k b a)) (λ h. IsTrueParcel h.plan (parcel_in e (part_on (cond k s r) (cond k a b))))
  fits true goes = if_each (part_on r b) (λ h. IsTrueParcel h.plan (parcel_in e (part_on s a))) (out_honest true goes false)
  fits false goes = if_each (part_on s a) (λ h. IsTrueParcel h.plan (parcel_in e (part_on r b))) (out_honest false goes true)

  pub brought : (k : Bool) (x y : Rack) → x ≡ (if leaves e (part_on (cond k s r) (cond k a b)) then change_on (vacate_holding e) (cond k s r) (cond k a b) else cond k a b)
      → y ≡ (if leaves e (part_on (cond k s r) (cond k a b)) then received_on (parcel_in e (part_on (cond k s r) (cond k a b))) (cond k r s) (cond k b a) else cond k b a)
      → IsCarried so ro a b e (may_post e (first_with_edge e (cond k a b).places)) (cond k x y) (cond k y x)
  brought k x y new come =
      let o = part_on (cond k s r) (cond k a b) in
      elim (leaves e o) as (λ z. leaves e o ≡ z → x ≡ (if z then change_on (vacate_holding e) (cond k s r) (cond k a b) else cond k a b)
      → y ≡ (if z then received_on (parcel_in e o) (cond k r s) (cond k b a) else cond k b a) → IsCarried so ro a b e (may_post e (first_with_edge e (cond k a b).places)) (cond k x y) (cond k y x)) [
        | true ↦ λ goes left to. subst (λ z. IsCarried so ro a b e z (cond k x y) (cond k y x)) (sym goes ∙ goes_at k) (carried k goes x y left to)
        | false ↦ λ none left to. subst (λ z. IsCarried so ro a b e z (cond k x y) (cond k y x)) (sym none ∙ goes_at k) (stays_there k x y left to)
      ] refl new come
