-- What a share that takes a parcel is, and what one that posts a parcel is. A kind is true for segments, whose racks
-- and owners come first.
use Rattle.std.proofs.Common.{◌≡◌, ℕ, Bool, true, false, not, cond, List, get_or, refl, sym, ap, ◌∙◌, subst, true≢false}
use Rattle.std.specs.Prelude.{Option, Some, None, IfSome, ◌&&◌, ◌||◌, if◌then◌else◌}
use Rattle.load_plan.specs.declared.plan.Plan.{Plan}
use Rattle.net_parts.specs.declared.parcel.Parcel.{Parcel}
use Rattle.net_parts.specs.Parcels.{IsTrueParcel}
use Rattle.exchange_core.specs.Holdings.{Holding, place_of_edge, parcel_of_edge, absent_parcel, vacate_holding, take_holding}
use Rattle.exchange_core.specs.Shares.{Rack, share_of, part_on, is_owned, change_on, change_edge, has_place, first_with_edge, may_post, leaves, parcel_in, is_refilled, posted_parcel, post_held, rack_of_way, has_place_for, take_of_way, take_held, received_on, IsOfPlan, IsWholeShare}
use Rattle.exchange_core.proofs.SoundHoldings.{place_here, edge_in_place}
use Rattle.exchange_core.proofs.ChangedRacks.{some_part, without_place, has_at_owner, owned_first, may_post_first, place_for, emptied_is, changed_is}
use Rattle.exchange_core.proofs.SoundShares.{none_here, vacate_next}
use Rattle.exchange_core.proofs.SidedShares.{turned, sided, whole, mine_sound, other_sound, next, emptied, taken}

-- The numbers of the segment and of the repeater that a share keeps for an edge.
pub record IsEdgeOf (so ro : List ℕ) (a b : Rack) (e s r : ℕ) : Type 0 where
  pub whole : IsWholeShare so ro (share_of a b)
  pub segment : s ≡ get_or so e 0
  pub repeater : r ≡ get_or ro e 0

pub edge_kept : {so ro : List ℕ} {a b : Rack} {e s r : ℕ} → IsWholeShare so ro (share_of a b) → s ≡ get_or so e 0 → r ≡ get_or ro e 0 → IsEdgeOf so ro a b e s r
edge_kept w segment repeater = record { whole = w; segment = segment; repeater = repeater }

at_kind : (kind : Bool) (so ro : List ℕ) (a b : Rack) (e s r : ℕ) → IsEdgeOf so ro a b e s r → cond kind s r ≡ get_or (cond kind so ro) e 0
at_kind true so ro a b e s r f = f.segment
at_kind false so ro a b e s r f = f.repeater

at_other : (kind : Bool) (so ro : List ℕ) (a b : Rack) (e s r : ℕ) → IsEdgeOf so ro a b e s r → cond kind r s ≡ get_or (cond kind ro so) e 0
at_other true so ro a b e s r f = f.repeater
at_other false so ro a b e s r f = f.segment

-- Take
if_some : (o : Option Holding) (P : Holding → Type 0) → ((h : Holding) → o ≡ Some h → P h) → IfSome o P
if_some None P f = tt
if_some (Some h) P f = f h refl

-- A parcel that a share may take.
pub record MayTake (so ro : List ℕ) (a b : Rack) (p : Parcel) (s r : ℕ) : Type 0 where
  pub edge : IsEdgeOf so ro a b p.edge s r
  pub owned : has_place_for p (share_of a b) ≡ true
  pub honest : (plan : Plan) → IsOfPlan plan (share_of a b) → IsTrueParcel plan p

module _ (kind : Bool) (so ro : List ℕ) (a b : Rack) (p : Parcel) (s r : ℕ) (t : MayTake so ro a b p s r) (way : p.to_repeater ≡ not kind) where
  mine_is : (k : Bool) → rack_of_way (not k) (share_of a b) ≡ cond k a b
  mine_is true = refl
  mine_is false = refl

  has_taken : has_place p.edge (part_on (cond kind s r) (cond kind a b)) ≡ true
  has_taken = owned_first (cond kind so ro) (cond kind a b) (sided kind so ro a b t.edge.whole).known p.edge (cond kind s r) (at_kind kind so ro a b p.edge s r t.edge)
      (ap (λ (x : Rack). is_owned (first_with_edge p.edge x.places)) (sym (ap (λ k. rack_of_way k (share_of a b)) way ∙ mine_is kind)) ∙ t.owned)

  of_kind : (k : Bool) (h : Holding) → part_on (cond k s r) (cond k a b) ≡ Some h → IsOfPlan h.plan (share_of a b)
  of_kind true h is = λ j v g gis. t.edge.whole.sound.plans j true v s g h gis is
  of_kind false h is = λ j v g gis. t.edge.whole.sound.plans j false v r g h gis is

  honest_here : (h : Holding) → part_on (cond kind s r) (cond kind a b) ≡ Some h → IsTrueParcel h.plan p
  honest_here h is = t.honest h.plan (of_kind kind h is)

  pub if_honest : IfSome (part_on (cond kind s r) (cond kind a b)) (λ h. IsTrueParcel h.plan p)
  if_honest = if_some (part_on (cond kind s r) (cond kind a b)) (λ h. IsTrueParcel h.plan p) honest_here

  -- it comes to the part, which has its edge
  pub taken_on : (mine : Rack) → mine ≡ received_on p (cond kind s r) (cond kind a b) → mine ≡ change_on (take_holding p) (cond kind s r) (cond kind a b)
  taken_on mine is = is ∙ ap (λ x. if x then change_on (take_holding p) (cond kind s r) (cond kind a b) else cond kind a b) has_taken

  module _ (mine other : Rack) (m : mine ≡ change_on (take_holding p) (cond kind s r) (cond kind a b))
      (o : other ≡ (if has_place p.edge (part_on (cond kind r s) (cond kind b a)) then change_on (vacate_holding p.edge) (cond kind r s) (cond kind b a) else cond kind b a)) where
    pub whole_taken : IsWholeShare so ro (share_of (cond kind mine other) (cond kind other mine))
    whole_taken =
        let j = not kind in
        let mo = cond kind so ro in
        let oo = cond kind ro so in
        let x = cond kind a b in
        let y = cond kind b a in
        let was = sided kind so ro a b t.edge.whole in
        let left = turned j kind oo mo other x (emptied j kind oo mo y x (turned kind j mo oo x y was) p.edge (cond kind r s) other o) in
        whole kind so ro mine other (taken kind j mo oo x other left p (cond kind s r) has_taken honest_here
        (none_here oo y was.known_other (other_sound kind j mo oo x y was) p.edge (cond kind r s) (at_other kind so ro a b p.edge s r t.edge) other o) mine m)

    mine_taken : mine ≡ change_edge (take_holding p) p.edge (cond kind a b)
    mine_taken = m ∙ sym (changed_is (cond kind so ro) (cond kind a b) (sided kind so ro a b t.edge.whole).known p.edge (cond kind s r) (at_kind kind so ro a b p.edge s r t.edge) (take_holding p) has_taken)

    other_emptied : other ≡ change_edge (vacate_holding p.edge) p.edge (cond kind b a)
    other_emptied = sym (emptied_is (cond kind ro so) (cond kind b a) (sided kind so ro a b t.edge.whole).known_other p.edge (cond kind r s) (at_other kind so ro a b p.edge s r t.edge) (vacate_holding p.edge) other o)

    by_kind : (k : Bool) (m' o' : Rack) → m' ≡ change_edge (take_holding p) p.edge (cond k a b) → o' ≡ change_edge (vacate_holding p.edge) p.edge (cond k b a)
        → share_of (cond k m' o') (cond k o' m') ≡ take_of_way (not k) p (share_of a b)
    by_kind true m' o' x y = λ i. share_of (x i) (y i)
    by_kind false m' o' x y = λ i. share_of (y i) (x i)

    pub new_taken : share_of (cond kind mine other) (cond kind other mine) ≡ take_held p (share_of a b)
    new_taken = by_kind kind mine other mine_taken other_emptied ∙ ap (λ x. take_of_way x p (share_of a b)) (sym way)

-- Post
both : (x y : Bool) → (x && y) ≡ true → x ≡ true
both true y h = refl
both false y h = absurd (true≢false (sym h))

other_of : (x y : Bool) → (x || y) ≡ true → x ≡ false → y ≡ true
other_of true y h n = absurd (true≢false n)
other_of false y h n = h

pub chosen_first : {A : Type 0} (b : Bool) (x y z : A) → z ≡ (if b then x else y) → b ≡ true → z ≡ x
chosen_first b x y z is holds = is ∙ ap (λ d. if d then x else y) holds

pub chosen_second : {A : Type 0} (b : Bool) (x y z : A) → z ≡ (if b then x else y) → b ≡ false → z ≡ y
chosen_second b x y z is fails = is ∙ ap (λ d. if d then x else y) fails

-- A parcel that a share may post, from a part of this kind.
pub record MayPost (kind : Bool) (so ro : List ℕ) (a b : Rack) (e s r : ℕ) : Type 0 where
  pub edge : IsEdgeOf so ro a b e s r
  pub has : has_place e (part_on (cond kind s r) (cond kind a b)) ≡ true
  pub first : may_post e (first_with_edge e a.places) ≡ kind

module _ (so ro : List ℕ) (a b : Rack) (e s r : ℕ) (f : IsEdgeOf so ro a b e s r) where
  pub may_at_segment : (has_place e (part_on s a) && may_post e (part_on s a)) ≡ true → MayPost true so ro a b e s r
  may_at_segment may = record {
    edge = f;
    has = both (has_place e (part_on s a)) (may_post e (part_on s a)) may;
    first = may_post_first so a f.whole.segments_known e s f.segment ∙ may;
  }

  -- what leaves no segment leaves a repeater
  pub leaves_repeater : leaves e (part_on s a) ≡ false → is_refilled e (share_of a b) ≡ true → leaves e (part_on r b) ≡ true
  leaves_repeater not_may refilled =
      let none = may_post_first so a f.whole.segments_known e s f.segment ∙ not_may in
      sym (may_post_first ro b f.whole.repeaters_known e r f.repeater) ∙ other_of (may_post e (first_with_edge e a.places)) (may_post e (first_with_edge e b.places)) refilled none

  pub may_at_repeater : (has_place e (part_on s a) && may_post e (part_on s a)) ≡ false → is_refilled e (share_of a b) ≡ true → MayPost false so ro a b e s r
  may_at_repeater not_may refilled =
      let none = may_post_first so a f.whole.segments_known e s f.segment ∙ not_may in
      record {
        edge = f;
        has = both (has_place e (part_on r b)) (may_post e (part_on r b)) (leaves_repeater not_may refilled);
        first = none;
      }

module _ (kind : Bool) (so ro : List ℕ) (a b : Rack) (e s r : ℕ) (q : MayPost kind so ro a b e s r) where
  at_owner : first_with_edge e (cond kind a b).places ≡ part_on (cond kind s r) (cond kind a b)
  at_owner = (has_at_owner (cond kind so ro) (cond kind a b) (sided kind so ro a b q.edge.whole).known e (cond kind s r) (at_kind kind so ro a b e s r q.edge) q.has).0

  pub posted_edge : (parcel_in e (part_on (cond kind s r) (cond kind a b))).edge ≡ e
  posted_edge = some_part (part_on (cond kind s r) (cond kind a b)) (without_place e (part_on (cond kind s r) (cond kind a b)) q.has) ((parcel_in e (part_on (cond kind s r) (cond kind a b))).edge ≡ e)
      (λ h is. ap (λ o. (parcel_in e o).edge) is ∙ edge_in_place e h.parcels (absent_parcel false e) (ap (has_place e) (sym is) ∙ q.has))

  plan_here : (k : Bool) (plan : Plan) → IsOfPlan plan (share_of a b) → (h : Holding) → part_on (cond k s r) (cond k a b) ≡ Some h → h.plan ≡ plan
  plan_here true plan of h is = of true s h is
  plan_here false plan of h is = of false r h is

  pub posted_true : (plan : Plan) → IsOfPlan plan (share_of a b) → IsTrueParcel plan (parcel_in e (part_on (cond kind s r) (cond kind a b)))
  posted_true plan of = some_part (part_on (cond kind s r) (cond kind a b)) (without_place e (part_on (cond kind s r) (cond kind a b)) q.has) (IsTrueParcel plan (parcel_in e (part_on (cond kind s r) (cond kind a b))))
      (λ h is. subst (λ o. IsTrueParcel plan (parcel_in e o)) (sym is) (subst (λ x. IsTrueParcel x (parcel_of_edge e h)) (plan_here kind plan of h is)
      ((mine_sound kind (not kind) (cond kind so ro) (cond kind ro so) (cond kind a b) (cond kind b a) (sided kind so ro a b q.edge.whole) (cond kind s r) h is).honest
      (place_of_edge e h) (absent_parcel false e) (place_here e h.parcels (ap (has_place e) (sym is) ∙ q.has)))))

  chosen : (k : Bool) → (if k then parcel_in e (first_with_edge e a.places) else parcel_in e (first_with_edge e b.places)) ≡ parcel_in e (first_with_edge e (cond k a b).places)
  chosen true = refl
  chosen false = refl

  pub posted_is : parcel_in e (part_on (cond kind s r) (cond kind a b)) ≡ posted_parcel e (share_of a b)
  posted_is = ap (parcel_in e) (sym at_owner) ∙ sym (chosen kind)
      ∙ sym (ap (λ x. if x then parcel_in e (first_with_edge e a.places) else parcel_in e (first_with_edge e b.places)) q.first)

  module _ (x : Rack) (is : x ≡ change_on (vacate_holding e) (cond kind s r) (cond kind a b)) where
    back : (k : Bool) → IsWholeShare so ro (share_of (cond k x (cond k b a)) (cond k (cond k b a) x)) → IsWholeShare so ro (share_of (cond k x a) (cond k b x))
    back true w = w
    back false w = w

    pub posted_whole : IsWholeShare so ro (share_of (cond kind x a) (cond kind b x))
    posted_whole = back kind (whole kind so ro x (cond kind b a) (next kind (not kind) (cond kind so ro) (cond kind ro so) (cond kind a b) (cond kind b a) (sided kind so ro a b q.edge.whole)
        (vacate_holding e) (cond kind s r) (λ h was sound. vacate_next e h sound (ap (has_place e) (sym was) ∙ q.has)) x is))

    left : (k : Bool) → x ≡ change_edge (vacate_holding e) e (cond k a b)
        → share_of (cond k x a) (cond k b x) ≡ (if k then share_of (change_edge (vacate_holding e) e a) b else share_of a (change_edge (vacate_holding e) e b))
    left true is' = ap (λ y. share_of y b) is'
    left false is' = ap (λ y. share_of a y) is'

    pub posted_new : share_of (cond kind x a) (cond kind b x) ≡ post_held e (share_of a b)
    posted_new = left kind (is ∙ sym (changed_is (cond kind so ro) (cond kind a b) (sided kind so ro a b q.edge.whole).known e (cond kind s r) (at_kind kind so ro a b e s r q.edge) (vacate_holding e) q.has))
        ∙ sym (ap (λ y. if y then share_of (change_edge (vacate_holding e) e a) b else share_of a (change_edge (vacate_holding e) e b)) q.first)

-- Whether a share has a parcel to post, and a place for one to take
module _ (so ro : List ℕ) (a b : Rack) (e s r : ℕ) (f : IsEdgeOf so ro a b e s r) where
  pub refilled_segment : (x : Bool) → x ≡ (has_place e (part_on s a) && may_post e (part_on s a)) → x ≡ true → x ≡ is_refilled e (share_of a b)
  refilled_segment x q t = t ∙ sym (ap (λ y. y || may_post e (first_with_edge e b.places)) (may_post_first so a f.whole.segments_known e s f.segment ∙ sym q ∙ t))

  pub refilled_repeater : (x y : Bool) → x ≡ (has_place e (part_on s a) && may_post e (part_on s a)) → x ≡ false → y ≡ (has_place e (part_on r b) && may_post e (part_on r b)) → y ≡ is_refilled e (share_of a b)
  refilled_repeater x y q none z =
      z ∙ sym (may_post_first ro b f.whole.repeaters_known e r f.repeater)
      ∙ sym (ap (λ t. t || may_post e (first_with_edge e b.places)) (may_post_first so a f.whole.segments_known e s f.segment ∙ sym q ∙ none))

  pub place_at : (kind : Bool) (p : Parcel) → p.edge ≡ e → p.to_repeater ≡ not kind → has_place e (part_on (cond kind s r) (cond kind a b)) ≡ has_place_for p (share_of a b)
  place_at true p is way = sym (place_for so a f.whole.segments_known e s f.segment) ∙ sym (λ i. is_owned (first_with_edge (is i) (rack_of_way (way i) (share_of a b)).places))
  place_at false p is way = sym (place_for ro b f.whole.repeaters_known e r f.repeater) ∙ sym (λ i. is_owned (first_with_edge (is i) (rack_of_way (way i) (share_of a b)).places))
