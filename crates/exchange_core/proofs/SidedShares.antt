-- A whole share, told from the side of its segments or of its repeaters, and what each call leaves of it.
use Rattle.std.proofs.Common.{◌≡◌, ℕ, Bool, true, false, not, cond, List, refl, sym, ap, ◌∙◌, subst, true≢false}
use Rattle.std.specs.Prelude.{Some, if◌then◌else◌}
use Rattle.net_parts.specs.declared.parcel.Parcel.{Parcel}
use Rattle.net_parts.specs.Parts.{is_segment_part}
use Rattle.net_parts.specs.Parcels.{IsTrueParcel}
use Rattle.exchange_core.specs.Holdings.{Holding, IsSoundHolding, is_here, vacate_holding, take_holding}
use Rattle.exchange_core.specs.Shares.{Rack, share_of, part_on, change_on, has_place, part_of_kind_on, IsInPlace, IsWholeShare, AreOwners, IsAddedInOrder}
use Rattle.exchange_core.proofs.ChangedRacks.{ComesOf, comes_of, order_kept, owners_kept}
use Rattle.exchange_core.proofs.SoundShares.{IsAfter, IsNext, IsTaken, next_itself, taken_itself, vacate_next, take_taken}

-- What is so of a whole share, told from the side of one kind of parts, whose rack is `mine` with the owners of edges
-- `mine_of`.
pub record IsSided (kind other_kind : Bool) (mine_of other_of : List ℕ) (mine other : Rack) : Type 0 where
  pub each : (v : ℕ) (h : Holding) → part_on v mine ≡ Some h → IsInPlace kind v h
  pub each_other : (v : ℕ) (h : Holding) → part_on v other ≡ Some h → IsInPlace other_kind v h
  pub plans : (u v : ℕ) (g h : Holding) → part_on u mine ≡ Some g → part_on v mine ≡ Some h → g.plan ≡ h.plan
  pub plans_between : (u v : ℕ) (g h : Holding) → part_on u mine ≡ Some g → part_on v other ≡ Some h → g.plan ≡ h.plan
  pub plans_other : (u v : ℕ) (g h : Holding) → part_on u other ≡ Some g → part_on v other ≡ Some h → g.plan ≡ h.plan
  pub once : (e u v : ℕ) (g h : Holding) → part_on u mine ≡ Some g → part_on v other ≡ Some h → is_here e g ≡ true → is_here e h ≡ true → ⊥
  pub order : IsAddedInOrder mine
  pub order_other : IsAddedInOrder other
  pub known : AreOwners mine_of mine
  pub known_other : AreOwners other_of other

pub turned : (k j : Bool) (mo oo : List ℕ) (m o : Rack) → IsSided k j mo oo m o → IsSided j k oo mo o m
turned k j mo oo m o s = record {
  each = s.each_other;
  each_other = s.each;
  plans = s.plans_other;
  plans_between = λ u v g h gis his. sym (s.plans_between v u h g his gis);
  plans_other = s.plans;
  once = λ e u v g h gis his here there. s.once e v u h g his gis there here;
  order = s.order_other;
  order_other = s.order;
  known = s.known_other;
  known_other = s.known;
}

module _ (so ro : List ℕ) (a b : Rack) where
  from_segments : IsWholeShare so ro (share_of a b) → IsSided true false so ro a b
  from_segments w = record {
    each = w.sound.each true;
    each_other = w.sound.each false;
    plans = w.sound.plans true true;
    plans_between = w.sound.plans true false;
    plans_other = w.sound.plans false false;
    once = w.sound.once;
    order = w.sound.segment_order;
    order_other = w.sound.repeater_order;
    known = w.segments_known;
    known_other = w.repeaters_known;
  }

  module _ (s : IsSided true false so ro a b) where
    each_of : (kind : Bool) (u : ℕ) (h : Holding) → part_of_kind_on kind u (share_of a b) ≡ Some h → IsInPlace kind u h
    each_of true = s.each
    each_of false = s.each_other

    plans_of : (kind other : Bool) (u v : ℕ) (g h : Holding) → part_of_kind_on kind u (share_of a b) ≡ Some g → part_of_kind_on other v (share_of a b) ≡ Some h → g.plan ≡ h.plan
    plans_of true true u v g h gis his = s.plans u v g h gis his
    plans_of true false u v g h gis his = s.plans_between u v g h gis his
    plans_of false true u v g h gis his = sym (s.plans_between v u h g his gis)
    plans_of false false u v g h gis his = s.plans_other u v g h gis his

    by_segments : IsWholeShare so ro (share_of a b)
    by_segments = record {
      sound = record { each = each_of; plans = plans_of; once = s.once; segment_order = s.order; repeater_order = s.order_other };
      segments_known = s.known;
      repeaters_known = s.known_other;
    }

-- a whole share from the side of either kind, and back
pub sided : (kind : Bool) (so ro : List ℕ) (a b : Rack) → IsWholeShare so ro (share_of a b) → IsSided kind (not kind) (cond kind so ro) (cond kind ro so) (cond kind a b) (cond kind b a)
sided true so ro a b w = from_segments so ro a b w
sided false so ro a b w = turned true false so ro a b (from_segments so ro a b w)

pub whole : (kind : Bool) (so ro : List ℕ) (m o : Rack) → IsSided kind (not kind) (cond kind so ro) (cond kind ro so) m o → IsWholeShare so ro (share_of (cond kind m o) (cond kind o m))
whole true so ro m o s = by_segments so ro m o s
whole false so ro m o s = by_segments so ro o m (turned false true ro so m o s)

-- one part of a kind becomes another
module _ (k j : Bool) (mo oo : List ℕ) (m o : Rack) (s : IsSided k j mo oo m o) where
  pub mine_sound : (v : ℕ) (h : Holding) → part_on v m ≡ Some h → IsSoundHolding h
  mine_sound v h is = (s.each v h is).sound

  pub other_sound : (v : ℕ) (h : Holding) → part_on v o ≡ Some h → IsSoundHolding h
  other_sound v h is = (s.each_other v h is).sound

  in_place : (v : ℕ) (before after : Holding) → IsInPlace k v before → IsAfter before after → IsInPlace k v after
  in_place v before after p a =
      record { number = a.number ∙ p.number; kind_is = (λ i. is_segment_part (a.plan i) (a.number i)) ∙ p.kind_is; sound = a.sound }

  changed_by : (f : Holding → Holding) (u : ℕ) (R : Holding → Holding → Type 0) → ((g h : Holding) → R g h → IsAfter g h)
      → ((h : Holding) → IsSoundHolding h → R h h) → ((h : Holding) → part_on u m ≡ Some h → IsSoundHolding h → R h (f h))
      → ((e v v' : ℕ) (before after h : Holding) → part_on v m ≡ Some before → R before after → part_on v' o ≡ Some h → is_here e after ≡ true → is_here e h ≡ true → ⊥)
      → (r : Rack) → r ≡ change_on f u m → IsSided k j mo oo r o
  changed_by f u R is_after stays goes once r is =
      let come : (v : ℕ) (after : Holding) → part_on v (change_on f u m) ≡ Some after → ComesOf R v m after =
      λ v after e. comes_of m f u R v after (λ v' h _ was. stays h (mine_sound v' h was)) (λ h was. goes h was (mine_sound u h was)) e in
      subst (λ x. IsSided k j mo oo x o) (sym is) (record {
        each = λ v after e. (let c = come v after e in in_place v c.before after (s.each v c.before c.was) (is_after c.before after c.then_is));
        each_other = s.each_other;
        plans = λ v v' g h gis his. (
            let c = come v g gis in
            let d = come v' h his in
            (is_after c.before g c.then_is).plan ∙ s.plans v v' c.before d.before c.was d.was ∙ sym (is_after d.before h d.then_is).plan);
        plans_between = λ v v' g h gis his. (let c = come v g gis in (is_after c.before g c.then_is).plan ∙ s.plans_between v v' c.before h c.was his);
        plans_other = s.plans_other;
        once = λ e v v' g h gis his here there. (let c = come v g gis in once e v v' c.before g h c.was c.then_is his here there);
        order = order_kept m f u s.order;
        order_other = s.order_other;
        known = owners_kept mo m (change_on f u m) (λ v after e. let c = come v after e in record { before = c.before; was = c.was; then_is = (is_after c.before after c.then_is).edges }) s.known;
        known_other = s.known_other;
      })

  -- with no parcel more
  pub next : (f : Holding → Holding) (u : ℕ) → ((h : Holding) → part_on u m ≡ Some h → IsSoundHolding h → IsNext h (f h)) → (r : Rack) → r ≡ change_on f u m → IsSided k j mo oo r o
  next f u goes r is = changed_by f u IsNext (λ g h n. n.is_after) next_itself goes
      (λ e v v' before after h was n his here there. s.once e v v' before h was his (n.here e here) there) r is

  -- without an edge's parcel, if it has a place here
  pub emptied : (e u : ℕ) (r : Rack) → r ≡ (if has_place e (part_on u m) then change_on (vacate_holding e) u m else m) → IsSided k j mo oo r o
  emptied e u r q = elim (has_place e (part_on u m)) as (λ x. has_place e (part_on u m) ≡ x → r ≡ (if x then change_on (vacate_holding e) u m else m) → IsSided k j mo oo r o) [
    | true ↦ λ has q'. next (vacate_holding e) u (λ h was sound. vacate_next e h sound (sym (ap (has_place e) was) ∙ has)) r q'
    | false ↦ λ _ q'. subst (λ x. IsSided k j mo oo x o) (sym q') s
  ] refl q

  -- with a parcel that is nowhere among the others
  pub taken : (p : Parcel) (u : ℕ) → has_place p.edge (part_on u m) ≡ true → ((h : Holding) → part_on u m ≡ Some h → IsTrueParcel h.plan p)
      → ((v : ℕ) (g : Holding) → part_on v o ≡ Some g → is_here p.edge g ≡ false) → (r : Rack) → r ≡ change_on (take_holding p) u m → IsSided k j mo oo r o
  taken p u has honest none r is = changed_by (take_holding p) u (IsTaken p.edge) (λ g h t. t.is_after) (taken_itself p.edge)
      (λ h was sound. take_taken p h sound (sym (ap (has_place p.edge) was) ∙ has) (honest h was))
      (λ e v v' before after h was t his here there. s.once e v v' before h was his (t.here e (λ same. true≢false (sym there ∙ ap (λ x. is_here x h) same ∙ none v' h his)) here) there)
      r is

-- one part of a share becomes another, with no parcel more
pub next_whole : (kind : Bool) (so ro : List ℕ) (a b : Rack) → IsWholeShare so ro (share_of a b) → (f : Holding → Holding) → ((h : Holding) → IsSoundHolding h → IsNext h (f h))
    → (u : ℕ) (r : Rack) → r ≡ change_on f u (cond kind a b) → IsWholeShare so ro (share_of (cond kind r a) (cond kind b r))
next_whole true so ro a b w f goes u r is = whole true so ro r b (next true false so ro a b (sided true so ro a b w) f u (λ h _ sound. goes h sound) r is)
next_whole false so ro a b w f goes u r is = whole false so ro r a (next false true ro so b a (sided false so ro a b w) f u (λ h _ sound. goes h sound) r is)
