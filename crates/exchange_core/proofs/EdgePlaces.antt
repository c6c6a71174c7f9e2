-- A search among parcels finds the place of an edge, and so does a look at the place where its parcel lies.
use mathlib.Core.Bool.{beq}
use Rattle.std.proofs.Common.{◌≡◌, ◌≢◌, ℕ, zero, suc, ◌<◌, ◌≤◌, Bool, true, false, not, ltb, inl, inr, List, [], ◌∷◌, length, get_or, refl, sym, ap, ap₂, ◌∙◌, arith, subst}
use Rattle.std.specs.Prelude.{Some, ◌&&◌}
use Rattle.std.proofs.lemmas.Bool.{cases_eq, cases_lt}
use Rattle.std.proofs.lemmas.Bool.Decides.{nat_tests}
use Rattle.std.proofs.lemmas.List.{length-map, get_or_default}
use Rattle.net_parts.specs.declared.parcel.Parcel.{Parcel}
use Rattle.net_parts.specs.Parts.{is_segment_part}
use Rattle.net_parts.specs.Boards.{has_edge, place_in}
use Rattle.exchange_core.specs.Holdings.{Holding, IsSoundHolding, edges_of_parcels, place_of_edge, parcel_of_edge, absent_parcel}
use Rattle.exchange_core.specs.Shares.{is_same_way, leaves}
use Rattle.exchange_core.proofs.EdgesOfParts.{AreApart, has_same, has_other, place_same, place_other, place_within, place_of_each, edges_apart}
use Rattle.exchange_core.proofs.SoundHoldings.{edge_at, edge_in_place, place_here}

pub place_found : (ps : List Parcel) (e i : ℕ) (d : Parcel) → i < length ps → (get_or ps i d).edge ≡ e → ((k : ℕ) (d : Parcel) → k < i → (get_or ps k d).edge ≢ e)
    → (place_in (edges_of_parcels ps) e ≡ i) × (has_edge (edges_of_parcels ps) e ≡ true)
place_found [] e i d in' is none = absurd (omega arith)
place_found (p ∷ ps) e zero d in' is none = (place_same p.edge e (edges_of_parcels ps) is, has_same p.edge e (edges_of_parcels ps) is)
place_found (p ∷ ps) e (suc i) d in' is none =
    let other : p.edge ≢ e = none 0 p (omega arith) in
    let rest = place_found ps e i d (omega arith) is (λ k d' l. none (suc k) d' (omega arith)) in
    (place_other p.edge e (edges_of_parcels ps) other ∙ ap suc rest.0, has_other p.edge e (edges_of_parcels ps) other ∙ rest.1)

pub none_found : (ps : List Parcel) (e : ℕ) → ((k : ℕ) (d : Parcel) → k < length ps → (get_or ps k d).edge ≢ e)
    → (place_in (edges_of_parcels ps) e ≡ length ps) × (has_edge (edges_of_parcels ps) e ≡ false)
none_found [] e none = (refl, refl)
none_found (p ∷ ps) e none =
    let other : p.edge ≢ e = none 0 p (omega arith) in
    let rest = none_found ps e (λ k d l. none (suc k) d (omega arith)) in
    (place_other p.edge e (edges_of_parcels ps) other ∙ ap suc rest.0, has_other p.edge e (edges_of_parcels ps) other ∙ rest.1)

-- a part whose parcel at a place is of an edge has that edge there, and nowhere before
pub hinted : (h : Holding) → IsSoundHolding h → (e k : ℕ) (d : Parcel) → k < length h.parcels → (get_or h.parcels k d).edge ≡ e → k ≡ place_of_edge e h
hinted h s e k d in' is =
    let es = edges_of_parcels h.parcels in
    let many : length es ≡ length h.parcels = length-map h.parcels (λ (p : Parcel). p.edge) in
    let at : get_or es k 0 ≡ e = edge_at h.parcels k d in' ∙ is in
    sym (place_of_each es k 0 (subst AreApart (sym s.edges) (edges_apart h.plan h.number)) (omega (arith, many, in'))) ∙ ap (place_in es) at

-- an edge whose place is one of the parcels' is there
pub has_within : (es : List ℕ) (e : ℕ) → place_in es e < length es → has_edge es e ≡ true
has_within [] e h = absurd (omega arith)
has_within (f ∷ fs) e h = elim (cases_eq f e) [
  | inl is ↦ has_same f e fs is
  | inr ne ↦ has_other f e fs ne ∙ (let p = place_other f e fs ne in has_within fs e (omega (arith, p, h)))
]

pub has_at_place : (ps : List Parcel) (e : ℕ) → place_in (edges_of_parcels ps) e < length ps → has_edge (edges_of_parcels ps) e ≡ true
has_at_place ps e h = let many = length-map ps (λ (p : Parcel). p.edge) in has_within (edges_of_parcels ps) e (omega (arith, many, h))

pub none_at_place : (ps : List Parcel) (e : ℕ) → length ps ≤ place_in (edges_of_parcels ps) e → has_edge (edges_of_parcels ps) e ≡ false
none_at_place ps e h = elim (has_edge (edges_of_parcels ps) e) as (λ b. has_edge (edges_of_parcels ps) e ≡ b → b ≡ false) [
  | true ↦ λ has. let many = length-map ps (λ (p : Parcel). p.edge) in let l = place_within (edges_of_parcels ps) e has in absurd (omega (arith, l, many, h))
  | false ↦ λ _. refl
] refl

pub is_less : (a b : ℕ) → true ≡ ltb a b → a < b
is_less a b h = elim (cases_lt a b) [ inl l ↦ l | inr m ↦ absurd (grind (arith, nat_tests)) ]

same_beq : (x y : Bool) → beq x y ≡ is_same_way x y
same_beq true true = refl
same_beq true false = refl
same_beq false true = refl
same_beq false false = refl

-- a part with its parcels is seen by its fields, and the place of one of its edges is known
module _ (h now : Holding) (e k : ℕ) (view : h ≡ now) where
  pub within_parcels : has_edge (edges_of_parcels now.parcels) e ≡ true → k ≡ place_of_edge e now → k < length h.parcels
  within_parcels has is =
      let l = place_here e now.parcels has in
      let m : length h.parcels ≡ length now.parcels = ap (λ (v : Holding). length v.parcels) view in
      omega (arith, l, m, is)

  pub parcel_at_place : (p : Parcel) → has_edge (edges_of_parcels now.parcels) e ≡ true → k ≡ place_of_edge e now → p ≡ get_or h.parcels k p → p ≡ parcel_of_edge e now
  parcel_at_place p has is at =
      at ∙ (λ i. get_or (view i).parcels (is i) p) ∙ get_or_default now.parcels (place_of_edge e now) p (absent_parcel false e) (place_here e now.parcels has)

  pub edge_at_place : (p : Parcel) → has_edge (edges_of_parcels now.parcels) e ≡ true → k ≡ place_of_edge e now → p ≡ get_or h.parcels k p → p.edge ≡ e
  edge_at_place p has is at = ap (λ (q : Parcel). q.edge) (parcel_at_place p has is at) ∙ edge_in_place e now.parcels (absent_parcel false e) has

  pub has_where : k ≡ place_of_edge e now → k < length h.parcels → has_edge (edges_of_parcels now.parcels) e ≡ true
  has_where is in' =
      let m : length h.parcels ≡ length now.parcels = ap (λ (v : Holding). length v.parcels) view in
      has_at_place now.parcels e (omega (arith, in', m, is))

  pub has_by_place : (n : ℕ) → n ≡ length h.parcels → k ≡ place_of_edge e now → ltb k n ≡ has_edge (edges_of_parcels now.parcels) e
  has_by_place n count is =
      let m : length h.parcels ≡ length now.parcels = ap (λ (v : Holding). length v.parcels) view in
      elim (cases_lt k n) [
        | inl l ↦ (let less : ltb k n ≡ true = grind (arith, nat_tests) in less ∙ sym (has_where is (omega (arith, l, count))))
        | inr past ↦ (let more : ltb k n ≡ false = grind (arith, nat_tests) in more ∙ sym (none_at_place now.parcels e (omega (arith, past, count, m, is))))
      ]

  pub leaves_by : IsSoundHolding h → k ≡ place_of_edge e now → k < length h.parcels → (away segment : Bool) (p : Parcel) → away ≡ get_or h.away k away → not away ≡ true → p ≡ get_or h.parcels k p
      → segment ≡ is_segment_part h.plan h.number → beq p.to_repeater segment ≡ leaves e (Some now)
  leaves_by s is in' away segment p flag here at kind =
      let has = has_where is in' in
      let few : k < length h.away = let m = s.places in omega (arith, m, in') in
      let stays : not (get_or now.away (place_of_edge e now) true) ≡ true = sym (λ i. not (get_or (view i).away (is i) true)) ∙ ap not (get_or_default h.away k true away few ∙ sym flag) ∙ here in
      same_beq p.to_repeater segment
      ∙ ap₂ is_same_way (ap (λ (q : Parcel). q.to_repeater) (parcel_at_place p has is at)) (kind ∙ ap (λ (v : Holding). is_segment_part v.plan v.number) view)
      ∙ sym (ap₂ (λ x y. x && (y && is_same_way (parcel_of_edge e now).to_repeater (is_segment_part now.plan now.number))) has stays)
