-- What each call leaves of a part, and where an edge has no parcel.
use Rattle.std.proofs.Common.{◌≡◌, ◌≢◌, ℕ, zero, suc, ◌<◌, ◌≤◌, Bool, true, false, not, inl, inr, List, [], ◌∷◌, length, set, get_or, refl, sym, ap, ◌∙◌, arith, true≢false}
use Rattle.std.specs.Prelude.{Some, if◌then◌else◌}
use Rattle.std.proofs.lemmas.Bool.{cases_eq}
use Rattle.std.proofs.lemmas.List.{length-map, get_or-set_same, get_or-set_other}
use Rattle.net_parts.specs.declared.parcel.Parcel.{Parcel}
use Rattle.net_parts.specs.Parts.{is_segment_part, edges_of_part}
use Rattle.net_parts.specs.Parcels.{IsTrueParcel}
use Rattle.net_parts.specs.Boards.{has_edge, place_in}
use Rattle.exchange_core.specs.Holdings.{Holding, IsSoundHolding, edges_of_parcels, place_of_edge, absent_parcel, is_here, reserved_holding, refused_holding, run_holding, spoil_holding, vacate_holding, take_holding}
use Rattle.exchange_core.specs.Shares.{Rack, Held, part_on, change_on, has_place, part_of_kind_on, IsSoundShare, AreOwners}
use Rattle.exchange_core.proofs.EdgesOfParts.{has_same, at_its_place, has_other, place_other}
use Rattle.exchange_core.proofs.SoundHoldings.{place_here, edges_set, reserved_sound, refused_sound, run_sound, spoil_sound, vacate_sound, take_sound}
use Rattle.exchange_core.proofs.ChangedRacks.{comes_of, nowhere_else}

-- a part after a change: the same part, sound
pub record IsAfter (before after : Holding) : Type 0 where
  pub plan : after.plan ≡ before.plan
  pub number : after.number ≡ before.number
  pub sound : IsSoundHolding after
  pub edges : edges_of_parcels after.parcels ≡ edges_of_parcels before.parcels

-- and with no parcel more
pub record IsNext (before after : Holding) : Type 0 where
  pub is_after : IsAfter before after
  pub here : (e : ℕ) → is_here e after ≡ true → is_here e before ≡ true

pub after_itself : (h : Holding) → IsSoundHolding h → IsAfter h h
after_itself h s = record { plan = refl; number = refl; sound = s; edges = refl }

pub next_itself : (h : Holding) → IsSoundHolding h → IsNext h h
next_itself h s = record { is_after = after_itself h s; here = λ e x. x }

-- with the same plan, number and places
same_places : (h h' : Holding) → IsSoundHolding h → IsSoundHolding h' → h'.plan ≡ h.plan → h'.number ≡ h.number → h'.away ≡ h.away → IsNext h h'
same_places h h' s s' p n a =
    let edges : edges_of_parcels h'.parcels ≡ edges_of_parcels h.parcels = s'.edges ∙ (λ i. edges_of_part (p i) (n i)) ∙ sym s.edges in
    record {
      is_after = record { plan = p; number = n; sound = s'; edges = edges };
      here = λ e x. sym (λ i. not (get_or (a i) (place_in (edges i) e) true)) ∙ x;
    }

pub reserved_next : (h : Holding) → IsSoundHolding h → IsNext h (reserved_holding h)
reserved_next h s = same_places h (reserved_holding h) s (reserved_sound h s) refl refl refl

pub refused_next : (h : Holding) → IsSoundHolding h → IsNext h (refused_holding h)
refused_next h s = same_places h (refused_holding h) s (refused_sound h s) refl refl refl

pub run_next : (h : Holding) → IsSoundHolding h → IsNext h (run_holding h)
run_next h s = same_places h (run_holding h) s (run_sound h s) refl refl refl

pub spoil_next : (h : Holding) → IsSoundHolding h → IsNext h (spoil_holding h)
spoil_next h s = same_places h (spoil_holding h) s (spoil_sound h s) refl refl refl

in_flags : (e : ℕ) (h : Holding) → IsSoundHolding h → has_edge (edges_of_parcels h.parcels) e ≡ true → place_of_edge e h < length h.away
in_flags e h s has = let l = place_here e h.parcels has in let m = s.places in omega (arith, l, m)

-- after Post the parcel is away
pub vacated : (e : ℕ) (h : Holding) → IsSoundHolding h → has_edge (edges_of_parcels h.parcels) e ≡ true → is_here e (vacate_holding e h) ≡ false
vacated e h s has =
    let k = place_of_edge e h in
    let gone = absent_parcel (is_segment_part h.plan h.number) e in
    (λ i. not (get_or (set h.away k true) (place_in (edges_set e h.parcels gone refl has i) e) true))
    ∙ ap not (get_or-set_same h.away k true true (in_flags e h s has))

pub vacate_next : (e : ℕ) (h : Holding) → IsSoundHolding h → has_edge (edges_of_parcels h.parcels) e ≡ true → IsNext h (vacate_holding e h)
vacate_next e h s has =
    let k = place_of_edge e h in
    let gone = absent_parcel (is_segment_part h.plan h.number) e in
    let edges = edges_set e h.parcels gone refl has in
    record {
      is_after = record { plan = refl; number = refl; sound = vacate_sound e h has s; edges = edges };
      here = λ e' x.
          let j = place_of_edge e' h in
          let at : not (get_or (set h.away k true) j true) ≡ true = sym (λ i. not (get_or (set h.away k true) (place_in (edges i) e') true)) ∙ x in
          elim (cases_eq j k) [
            | inl is ↦ absurd (true≢false (sym at ∙ ap (λ m. not (get_or (set h.away k true) m true)) is ∙ ap not (get_or-set_same h.away k true true (in_flags e h s has))))
            | inr other ↦ sym (ap not (get_or-set_other h.away k j true true other)) ∙ at
          ];
    }

-- after Take no parcel is here that wasn't but the one that was taken
pub record IsTaken (e : ℕ) (before after : Holding) : Type 0 where
  pub is_after : IsAfter before after
  pub here : (e' : ℕ) → e' ≢ e → is_here e' after ≡ true → is_here e' before ≡ true

pub taken_itself : (e : ℕ) (h : Holding) → IsSoundHolding h → IsTaken e h h
taken_itself e h s = record { is_after = after_itself h s; here = λ e' _ x. x }

get_past : (xs : List Bool) (k : ℕ) → length xs ≤ k → get_or xs k true ≡ true
get_past [] k h = refl
get_past (x ∷ xs) zero h = absurd (omega arith)
get_past (x ∷ xs) (suc k) h = get_past xs k (omega arith)

place_past : (es : List ℕ) (e : ℕ) → has_edge es e ≡ false → place_in es e ≡ length es
place_past [] e h = refl
place_past (f ∷ fs) e h = elim (cases_eq f e) [
  | inl is ↦ absurd (true≢false (sym (has_same f e fs is) ∙ h))
  | inr other ↦ place_other f e fs other ∙ ap suc (place_past fs e (sym (has_other f e fs other) ∙ h))
]

pub not_here : (e : ℕ) (h : Holding) → IsSoundHolding h → has_edge (edges_of_parcels h.parcels) e ≡ false → is_here e h ≡ false
not_here e h s none =
    let p = place_past (edges_of_parcels h.parcels) e none in
    let m = length-map h.parcels (λ (q : Parcel). q.edge) in
    let f = s.places in
    ap not (get_past h.away (place_of_edge e h) (omega (arith, p, m, f)))

-- two edges of a part have two places
other_place : (es : List ℕ) (e e' : ℕ) → has_edge es e ≡ true → has_edge es e' ≡ true → e' ≢ e → place_in es e' ≢ place_in es e
other_place es e e' a b ne is = ne (sym (at_its_place es e' 0 b) ∙ ap (λ k. get_or es k 0) is ∙ at_its_place es e 0 a)

pub take_taken : (p : Parcel) (h : Holding) → IsSoundHolding h → has_edge (edges_of_parcels h.parcels) p.edge ≡ true → IsTrueParcel h.plan p → IsTaken p.edge h (take_holding p h)
take_taken p h s has honest =
    let k = place_of_edge p.edge h in
    let edges = edges_set p.edge h.parcels p refl has in
    record {
      is_after = record { plan = refl; number = refl; sound = take_sound p h has honest s; edges = edges };
      here = λ e' ne x.
          let j = place_of_edge e' h in
          let at : not (get_or (set h.away k false) j true) ≡ true = sym (λ i. not (get_or (set h.away k false) (place_in (edges i) e') true)) ∙ x in
          elim (has_edge (edges_of_parcels h.parcels) e') as (λ b. has_edge (edges_of_parcels h.parcels) e' ≡ b → is_here e' h ≡ true) [
            | true ↦ λ b. sym (ap not (get_or-set_other h.away k j false true (other_place (edges_of_parcels h.parcels) p.edge e' has b ne))) ∙ at
            | false ↦ λ b. absurd (true≢false (sym at ∙ ap not (get_or-set_other h.away k j false true (λ is. (
                let l = place_here p.edge h.parcels has in
                let q = place_past (edges_of_parcels h.parcels) e' b in
                let m = length-map h.parcels (λ (r : Parcel). r.edge) in omega (arith, l, q, m, is)))) ∙ not_here e' h s b))
          ] refl;
    }

pub sound_on : (kind : Bool) (s : Held) → IsSoundShare s → (v : ℕ) (h : Holding) → part_of_kind_on kind v s ≡ Some h → IsSoundHolding h
sound_on kind s old v h is = (old.each kind v h is).sound

-- an edge whose part has lost its parcel is nowhere here
pub none_here : (owners : List ℕ) (r : Rack) → AreOwners owners r → ((v : ℕ) (h : Holding) → part_on v r ≡ Some h → IsSoundHolding h) → (e u : ℕ) → u ≡ get_or owners e 0 → (r' : Rack)
    → r' ≡ (if has_place e (part_on u r) then change_on (vacate_holding e) u r else r)
    → (v : ℕ) (g : Holding) → part_on v r' ≡ Some g → is_here e g ≡ false
none_here owners r known sound e u is r' q v g at = elim (has_place e (part_on u r)) as (λ b. has_place e (part_on u r) ≡ b → r' ≡ (if b then change_on (vacate_holding e) u r else r) → is_here e g ≡ false) [
  | true ↦ λ has q'.
      let c = comes_of r (vacate_holding e) u (λ h h'. is_here e h' ≡ false) v g
      (λ w h other was. not_here e h (sound w h was) (elim (has_place e (Some h)) as (λ b. has_place e (Some h) ≡ b → b ≡ false) [
        | true ↦ λ yes. absurd (other (sym (known e w (ap (has_place e) was ∙ yes)) ∙ sym is))
        | false ↦ λ _. refl
      ] refl))
      (λ h was. vacated e h (sound u h was) (sym (ap (has_place e) was) ∙ has))
      (ap (part_on v) (sym q') ∙ at) in
      c.then_is
  | false ↦ λ none q'.
      let was : part_on v r ≡ Some g = ap (part_on v) (sym q') ∙ at in
      not_here e g (sound v g was) (sym (ap (has_place e) was) ∙ nowhere_else owners r known e u is none v)
] refl q
