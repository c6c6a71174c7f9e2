-- A share that gets one more part stays sound.
use Rattle.std.proofs.Common.{◌≡◌, ◌≢◌, ℕ, zero, suc, ◌+◌, ◌-◌, ◌<◌, ◌≤◌, Bool, true, false, not, cond, inl, inr, List, [], ◌∷◌, ◌++◌, length, replicate, get_or, refl, sym, ap, ◌∙◌, arith, subst, true≢false}
use Rattle.std.specs.Prelude.{Option, Some, None, Result, OnOk, OnErr, if◌then◌else◌}
use Rattle.std.proofs.lemmas.Bool.{cases_eq, cases_lt}
use Rattle.std.proofs.lemmas.List.{length-append, length-replicate, get_or_append_left, get_or-set_same, get_or-set_other}
use Rattle.std.proofs.Math.Seq.{get_or-append_seam}
use Rattle.load_plan.specs.declared.plan.Plan.{Plan}
use Rattle.net_parts.specs.Parts.{is_segment_part, edges_of_part}
use Rattle.net_parts.specs.Boards.{has_edge, place_in}
use Rattle.exchange_core.specs.Holdings.{Holding, IsSoundHolding, edges_of_parcels, place_of_edge, is_here, added_repeater}
use Rattle.exchange_core.specs.Shares.{Rack, Held, share_of, nothing_held, part_on, owns, is_owned, has_place, part_of_kind_on, widened, add_on, IsOfPlan, HasNoneOf, IsInPlace, IsWholeShare, AreOwners, IsAddedInOrder}
use Rattle.exchange_core.proofs.EitherAnswer.{on_either}
use Rattle.exchange_core.proofs.EdgesOfParts.{at_its_place, place_within, has_each, one_part}
use Rattle.exchange_core.proofs.ChangedRacks.{some_same, none_not_some, some_part, without_place}
use Rattle.exchange_core.proofs.SoundShares.{not_here}
use Rattle.exchange_core.proofs.SidedShares.{IsSided, sided, whole}

pub nothing_whole : IsWholeShare [] [] nothing_held
nothing_whole = record {
  sound = record {
    each = λ kind u h is. absurd (empty kind u h is);
    plans = λ kind other u v g h is _. absurd (empty kind u g is);
    once = λ e u v g h is _ _ _. empty true u g is;
    segment_order = record { owned = λ i h. absurd (omega arith); apart = λ i j h k. absurd (omega arith) };
    repeater_order = record { owned = λ i h. absurd (omega arith); apart = λ i j h k. absurd (omega arith) };
  };
  segments_known = λ e u has. absurd (true≢false (sym has));
  repeaters_known = λ e u has. absurd (true≢false (sym has));
}
  where
    empty : (kind : Bool) (u : ℕ) (h : Holding) → part_of_kind_on kind u nothing_held ≡ Some h → ⊥
    empty true u h is = none_not_some h is
    empty false u h is = none_not_some h is

replicate_none : (m v : ℕ) → (let o : Option Holding = None in get_or (replicate m o) v o) ≡ None
replicate_none zero v = refl
replicate_none (suc m) zero = refl
replicate_none (suc m) (suc v) = replicate_none m v

append_none : (os : List (Option Holding)) (m v : ℕ) → get_or (os ++ replicate m None) v None ≡ get_or os v None
append_none [] m v = replicate_none m v
append_none (o ∷ os) m zero = refl
append_none (o ∷ os) m (suc v) = append_none os m v

wide : (n : ℕ) (os : List (Option Holding)) → n ≤ length (widened n os)
wide n os =
    let l = length-append os (replicate (n - length os) None) in
    let none : Option Holding = None in
    let m = length-replicate (n - length os) none in
    omega (arith, l, m)

module _ (h : Holding) (r : Rack) where
  added_same : part_on h.number (add_on h r) ≡ Some h
  added_same = let l = wide (h.number + 1) r.places in get_or-set_same (widened (h.number + 1) r.places) h.number (Some h) None (omega (arith, l))

  pub added_other : (v : ℕ) → v ≢ h.number → part_on v (add_on h r) ≡ part_on v r
  added_other v ne = get_or-set_other (widened (h.number + 1) r.places) h.number v (Some h) None ne ∙ append_none r.places (h.number + 1 - length r.places) v

  pub added_on : (v : ℕ) (after : Holding) → part_on v (add_on h r) ≡ Some after → (C : Type 0) → (v ≡ h.number → after ≡ h → C) → (part_on v r ≡ Some after → C) → C
  added_on v after is C new old = elim (cases_eq v h.number) [
    | inl same ↦ new same (some_same after h (sym is ∙ ap (λ u. part_on u (add_on h r)) same ∙ added_same))
    | inr other ↦ old (sym (added_other v other) ∙ is)
  ]

  module _ (not_owned : is_owned (part_on h.number r) ≡ false) (o : IsAddedInOrder r) where
    old_other : (i : ℕ) → i < length r.order → get_or r.order i 0 ≢ h.number
    old_other i in' same = true≢false (sym (o.owned i in') ∙ ap (λ v. is_owned (part_on v r)) same ∙ not_owned)

    long : length (r.order ++ h.number ∷ []) ≡ length r.order + 1
    long = length-append r.order (h.number ∷ [])

    at_old : (i : ℕ) → i < length r.order → get_or (r.order ++ h.number ∷ []) i 0 ≡ get_or r.order i 0
    at_old i in' = get_or_append_left r.order (h.number ∷ []) 0 i in'

    at_new : (i : ℕ) → i ≡ length r.order → get_or (r.order ++ h.number ∷ []) i 0 ≡ h.number
    at_new i is = ap (λ j. get_or (r.order ++ h.number ∷ []) j 0) is ∙ get_or-append_seam r.order h.number [] 0

    pub order_added : IsAddedInOrder (add_on h r)
    order_added = record {
      owned = λ i in'. elim (cases_lt i (length r.order)) [
        | inl l ↦ ap (λ v. is_owned (part_on v (add_on h r))) (at_old i l) ∙ ap is_owned (added_other (get_or r.order i 0) (old_other i l)) ∙ o.owned i l
        | inr m ↦ ap (λ v. is_owned (part_on v (add_on h r))) (at_new i (let z = long in omega (arith, m, z, in'))) ∙ ap is_owned added_same
      ];
      apart = λ i j below in' same. elim (cases_lt j (length r.order)) [
        | inl l ↦ o.apart i j below l (sym (at_old i (omega (arith, below, l))) ∙ same ∙ at_old j l)
        | inr m ↦ (let z = long in old_other i (omega (arith, z, below, in')) (sym (at_old i (omega (arith, z, below, in'))) ∙ same ∙ at_new j (omega (arith, m, z, in'))))
      ];
    }

not_owned : (o q : Option Holding) → is_owned (if is_owned o then o else q) ≡ false → (is_owned o ≡ false) × (is_owned q ≡ false)
not_owned None q h = (refl, h)
not_owned (Some x) q h = absurd (true≢false h)

pub not_owned_on : (u : ℕ) (a b : Rack) → owns u (share_of a b) ≡ false → (is_owned (part_on u a) ≡ false) × (is_owned (part_on u b) ≡ false)
not_owned_on u a b h = not_owned (part_on u a) (part_on u b) h

-- no part of a rack has an edge of a part of the same kind that isn't there
fresh_edges : (plan : Plan) (kind : Bool) (u : ℕ) (r : Rack) → ((v : ℕ) (g : Holding) → part_on v r ≡ Some g → IsInPlace kind v g) → ((v : ℕ) (g : Holding) → part_on v r ≡ Some g → g.plan ≡ plan)
    → is_segment_part plan u ≡ kind → is_owned (part_on u r) ≡ false
    → (e v : ℕ) (g : Holding) → part_on v r ≡ Some g → has_edge (edges_of_part plan u) e ≡ true → has_edge (edges_of_parcels g.parcels) e ≡ true → ⊥
fresh_edges plan kind u r each of is none e v g at mine other =
    let i = each v g at in
    let same : g.plan ≡ plan = of v g at in
    let kinds : is_segment_part plan v ≡ is_segment_part plan u = sym (λ j. is_segment_part (same j) (i.number j)) ∙ i.kind_is ∙ sym is in
    let edges : edges_of_parcels g.parcels ≡ edges_of_part plan v = i.sound.edges ∙ (λ j. edges_of_part (same j) (i.number j)) in
    let one : v ≡ u = one_part plan v u e kinds (sym (ap (λ es. has_edge es e) edges) ∙ other) mine in
    true≢false (sym (ap is_owned at) ∙ ap (λ w. is_owned (part_on w r)) one ∙ none)

-- the owners of edges are learnt
module _ (plan : Plan) (u : ℕ) (es old new : List ℕ) (edges : es ≡ edges_of_part plan u)
    (others : (e : ℕ) → ((k : ℕ) → k < length es → get_or es k 0 ≢ e) → get_or new e 0 ≡ get_or old e 0) where
  others_at : (e : ℕ) → (has_edge (edges_of_part plan u) e ≡ true → ⊥) → get_or new e 0 ≡ get_or old e 0
  others_at e none = others e (λ k in' is. none (sym (ap (λ xs. has_edge xs e) edges) ∙ ap (has_edge es) (sym is) ∙ has_each es k 0 in'))

  mine_at : ((k : ℕ) → k < length es → get_or new (get_or es k 0) 0 ≡ u) → (e : ℕ) → has_edge (edges_of_part plan u) e ≡ true → get_or new e 0 ≡ u
  mine_at mine e has =
      let has' : has_edge es e ≡ true = ap (λ xs. has_edge xs e) edges ∙ has in
      ap (λ x. get_or new x 0) (sym (at_its_place es e 0 has')) ∙ mine (place_in es e) (place_within es e has')

  learnt : (r : Rack) → ((e v : ℕ) (g : Holding) → part_on v r ≡ Some g → has_edge (edges_of_part plan u) e ≡ true → has_edge (edges_of_parcels g.parcels) e ≡ true → ⊥)
      → AreOwners old r → AreOwners new r
  learnt r fresh known e v has =
      some_part (part_on v r) (without_place e (part_on v r) has) (get_or new e 0 ≡ v)
      (λ g is. others_at e (λ mine. fresh e v g is mine (ap (has_place e) (sym is) ∙ has)) ∙ known e v has)

  owners_added : (h : Holding) (r : Rack) → h.number ≡ u → edges_of_parcels h.parcels ≡ edges_of_part plan u → ((k : ℕ) → k < length es → get_or new (get_or es k 0) 0 ≡ u)
      → ((e v : ℕ) (g : Holding) → part_on v r ≡ Some g → has_edge (edges_of_part plan u) e ≡ true → has_edge (edges_of_parcels g.parcels) e ≡ true → ⊥)
      → AreOwners old r → AreOwners new (add_on h r)
  owners_added h r number places mine fresh known e v has =
      some_part (part_on v (add_on h r)) (without_place e (part_on v (add_on h r)) has) (get_or new e 0 ≡ v) (λ g is.
      added_on h r v g is (get_or new e 0 ≡ v)
      (λ at same. mine_at mine e (sym (ap (λ xs. has_edge xs e) places) ∙ ap (λ (x : Holding). has_edge (edges_of_parcels x.parcels) e) (sym same) ∙ ap (has_place e) (sym is) ∙ has) ∙ sym number ∙ sym at)
      (λ was. learnt r fresh known e v (ap (has_place e) was ∙ ap (has_place e) (sym is) ∙ has)))

-- all parcels of a new repeater are away
pub none_at_new : (plan : Plan) (u w e : ℕ) → is_here e (added_repeater plan u w) ≡ false
none_at_new plan u w e = ap not (all_true (length (edges_of_part plan u)) (place_of_edge e (added_repeater plan u w)))
  where
    all_true : (n k : ℕ) → get_or (replicate n true) k true ≡ true
    all_true zero k = refl
    all_true (suc n) zero = refl
    all_true (suc n) (suc k) = all_true n k

-- A part of this kind that may be added to a share.
pub record MayAdd (kind : Bool) (s : Held) (h : Holding) : Type 0 where
  pub sound : IsSoundHolding h
  pub kind_is : is_segment_part h.plan h.number ≡ kind
  pub plan : IsOfPlan h.plan s
  pub fresh : owns h.number s ≡ false

-- where no repeater has a parcel of a segment's edges, none has one that is here
pub none_elsewhere : (h : Holding) (s : Held) → IsSoundHolding h → HasNoneOf (edges_of_part h.plan h.number) s
    → (e v : ℕ) (g : Holding) → is_here e h ≡ true → part_on v s.repeaters ≡ Some g → is_here e g ≡ true → ⊥
none_elsewhere h s sound none e v g here at there =
    true≢false (sym there ∙ none e v g (sym (ap (λ xs. has_edge xs e) sound.edges) ∙ has_it) at)
  where
    has_it : has_edge (edges_of_parcels h.parcels) e ≡ true
    has_it = elim (has_edge (edges_of_parcels h.parcels) e) as (λ x. has_edge (edges_of_parcels h.parcels) e ≡ x → x ≡ true) [
      | true ↦ λ _. refl
      | false ↦ λ no_place. absurd (true≢false (sym here ∙ not_here e h sound no_place))
    ] refl

module _ (kind : Bool) (so ro : List ℕ) (a b : Rack) (w : IsWholeShare so ro (share_of a b)) (h : Holding) (may : MayAdd kind (share_of a b) h)
    (es new : List ℕ) (edges : es ≡ edges_of_part h.plan h.number)
    (others : (e : ℕ) → ((k : ℕ) → k < length es → get_or es k 0 ≢ e) → get_or new e 0 ≡ get_or (cond kind so ro) e 0) where
  was : IsSided kind (not kind) (cond kind so ro) (cond kind ro so) (cond kind a b) (cond kind b a)
  was = sided kind so ro a b w

  none_owned : (k : Bool) → is_owned (part_on h.number (cond k a b)) ≡ false
  none_owned true = (not_owned_on h.number a b may.fresh).0
  none_owned false = (not_owned_on h.number a b may.fresh).1

  of_rack : (k : Bool) (v : ℕ) (g : Holding) → part_on v (cond k a b) ≡ Some g → g.plan ≡ h.plan
  of_rack true v g at = may.plan true v g at
  of_rack false v g at = may.plan false v g at

  of_other : (k : Bool) (v : ℕ) (g : Holding) → part_on v (cond k b a) ≡ Some g → g.plan ≡ h.plan
  of_other true v g at = may.plan false v g at
  of_other false v g at = may.plan true v g at

  fresh_here : (e v : ℕ) (g : Holding) → part_on v (cond kind a b) ≡ Some g → has_edge (edges_of_part h.plan h.number) e ≡ true → has_edge (edges_of_parcels g.parcels) e ≡ true → ⊥
  fresh_here = fresh_edges h.plan kind h.number (cond kind a b) was.each (of_rack kind) may.kind_is (none_owned kind)

  finish : (k : Bool) (m o : Rack) → IsSided k (not k) new (cond k ro so) m o → IsWholeShare (cond k new so) (cond k ro new) (share_of (cond k m o) (cond k o m))
  finish true m o s = whole true new ro m o s
  finish false m o s = whole false so new m o s

  back : (k : Bool) (r : Rack) (so' ro' : List ℕ) → IsWholeShare so' ro' (share_of (cond k r (cond k b a)) (cond k (cond k b a) r)) → IsWholeShare so' ro' (share_of (cond k r a) (cond k b r))
  back true r so' ro' x = x
  back false r so' ro' x = x

  same_racks : (k : Bool) → share_of (cond k (cond k a b) a) (cond k b (cond k a b)) ≡ share_of a b
  same_racks true = refl
  same_racks false = refl

  -- the owners are learnt before there is room for the part
  pub learnt_whole : IsWholeShare (cond kind new so) (cond kind ro new) (share_of a b)
  learnt_whole = subst (IsWholeShare (cond kind new so) (cond kind ro new)) (same_racks kind)
      (back kind (cond kind a b) (cond kind new so) (cond kind ro new) (finish kind (cond kind a b) (cond kind b a) (record {
        each = was.each;
        each_other = was.each_other;
        plans = was.plans;
        plans_between = was.plans_between;
        plans_other = was.plans_other;
        once = was.once;
        order = was.order;
        order_other = was.order_other;
        known = learnt h.plan h.number es (cond kind so ro) new edges others (cond kind a b) fresh_here was.known;
        known_other = was.known_other;
      })))

  of_new : (v : ℕ) (g : Holding) → part_on v (add_on h (cond kind a b)) ≡ Some g → g.plan ≡ h.plan
  of_new v g at = added_on h (cond kind a b) v g at (g.plan ≡ h.plan) (λ _ it. ap (λ (x : Holding). x.plan) it) (λ before. of_rack kind v g before)

  pub added_whole : ((k : ℕ) → k < length es → get_or new (get_or es k 0) 0 ≡ h.number)
      → ((e v : ℕ) (g : Holding) → is_here e h ≡ true → part_on v (cond kind b a) ≡ Some g → is_here e g ≡ true → ⊥)
      → (r : Rack) → r ≡ add_on h (cond kind a b) → IsWholeShare (cond kind new so) (cond kind ro new) (share_of (cond kind r a) (cond kind b r))
  added_whole mine none r is = back kind r (cond kind new so) (cond kind ro new) (finish kind r (cond kind b a) (subst (λ x. IsSided kind (not kind) new (cond kind ro so) x (cond kind b a)) (sym is) (record {
    each = λ v g at. added_on h (cond kind a b) v g at (IsInPlace kind v g)
        (λ same it. subst (IsInPlace kind v) (sym it) (record { number = sym same; kind_is = may.kind_is; sound = may.sound })) (λ before. was.each v g before);
    each_other = was.each_other;
    plans = λ u v g g' gis gis'. of_new u g gis ∙ sym (of_new v g' gis');
    plans_between = λ u v g g' gis gis'. of_new u g gis ∙ sym (of_other kind v g' gis');
    plans_other = was.plans_other;
    once = λ e u v g g' gis gis' here there. added_on h (cond kind a b) u g gis ⊥
        (λ same it. none e v g' (ap (is_here e) (sym it) ∙ here) gis' there)
        (λ before. was.once e u v g g' before gis' here there);
    order = order_added h (cond kind a b) (none_owned kind) was.order;
    order_other = was.order_other;
    known = owners_added h.plan h.number es (cond kind so ro) new edges others h (cond kind a b) refl may.sound.edges mine fresh_here was.known;
    known_other = was.known_other;
  })))

  -- there is room for it or not
  pub grown_whole : {X Y : Type 0} (answer : Result X Y) (holder : Holding) (r : Rack) → holder ≡ h
      → ((k : ℕ) → k < length es → get_or new (get_or es k 0) 0 ≡ h.number)
      → ((e v : ℕ) (g : Holding) → is_here e h ≡ true → part_on v (cond kind b a) ≡ Some g → is_here e g ≡ true → ⊥)
      → OnOk answer (r ≡ add_on holder (cond kind a b)) → OnErr answer (r ≡ cond kind a b)
      → IsWholeShare (cond kind new so) (cond kind ro new) (share_of (cond kind r a) (cond kind b r))
  grown_whole answer holder r is mine none ok err =
      on_either answer (r ≡ add_on holder (cond kind a b)) (r ≡ cond kind a b) (IsWholeShare (cond kind new so) (cond kind ro new) (share_of (cond kind r a) (cond kind b r))) ok err
      (λ q. added_whole mine none r (q ∙ ap (λ x. add_on x (cond kind a b)) is))
      (λ q. subst (IsWholeShare (cond kind new so) (cond kind ro new)) (sym (ap (λ x. share_of (cond kind x a) (cond kind b x)) q ∙ same_racks kind)) learnt_whole)
