-- What a change of one part leaves of a rack.
use Rattle.std.proofs.Common.{◌≡◌, ◌≢◌, ℕ, zero, suc, ◌<◌, true, false, cond, inl, inr, List, [], ◌∷◌, length, set, get_or, refl, sym, ap, ◌∙◌, arith, subst, true≢false}
use Rattle.std.specs.Prelude.{Option, Some, None, ◌&&◌, if◌then◌else◌}
use Rattle.std.proofs.lemmas.Bool.{cases_eq}
use Rattle.std.proofs.lemmas.List.{set-get_or, get_or-set_same, get_or-set_other}
use Rattle.net_parts.specs.Boards.{has_edge}
use Rattle.exchange_core.specs.Holdings.{Holding, edges_of_parcels}
use Rattle.exchange_core.specs.Shares.{Rack, part_on, is_owned, changed, change_on, has_place, first_with_edge, change_first, change_edge, may_post, AreOwners, IsAddedInOrder}

holding_or : Holding → Option Holding → Holding
holding_or d None = d
holding_or d (Some h) = h

pub some_same : (g h : Holding) → Some g ≡ Some h → g ≡ h
unfolding holding_or
some_same g h e = ap (holding_or g) e

pub none_not_some : (h : Holding) → (let o : Option Holding = None in o ≡ Some h) → ⊥
none_not_some h e = true≢false (sym (ap is_owned e))

pub owned_within : (os : List (Option Holding)) (u : ℕ) → is_owned (get_or os u None) ≡ true → u < length os
owned_within [] u h = absurd (true≢false (sym h))
owned_within (o ∷ os) zero h = omega arith
owned_within (o ∷ os) (suc u) h = let rest = owned_within os u h in omega (arith, rest)

-- a part of a changed rack comes of one at the same place
pub record ComesOf (Q : Holding → Holding → Type 0) (v : ℕ) (r : Rack) (after : Holding) : Type 0 where
  pub before : Holding
  pub was : part_on v r ≡ Some before
  pub then_is : Q before after

module _ (r : Rack) (f : Holding → Holding) (u : ℕ) where
  same_place : (h : Holding) → part_on u r ≡ Some h → part_on u (change_on f u r) ≡ Some (f h)
  same_place h is = get_or-set_same r.places u (changed f (part_on u r)) None (owned_within r.places u (ap is_owned is)) ∙ ap (changed f) is

  no_change : part_on u r ≡ None → set r.places u (changed f (part_on u r)) ≡ r.places
  no_change is = ap (λ o. set r.places u o) (ap (changed f) is ∙ sym is) ∙ set-get_or r.places u None

  pub comes_of : (Q : Holding → Holding → Type 0) (v : ℕ) (after : Holding)
      → ((w : ℕ) (h : Holding) → w ≢ u → part_on w r ≡ Some h → Q h h) → ((h : Holding) → part_on u r ≡ Some h → Q h (f h))
      → part_on v (change_on f u r) ≡ Some after → ComesOf Q v r after
  comes_of Q v after stays moves e = elim (cases_eq v u) [
    | inl is ↦ elim (part_on u r) as (λ o. part_on u r ≡ o → ComesOf Q v r after) [
      | Some h ↦ λ was. record {
        before = h;
        was = ap (λ w. part_on w r) is ∙ was;
        then_is = subst (Q h) (some_same (f h) after (sym (same_place h was) ∙ ap (λ w. part_on w (change_on f u r)) (sym is) ∙ e)) (moves h was);
      }
      | None ↦ λ was. absurd (none_not_some after (sym was ∙ ap (λ w. part_on w r) (sym is) ∙ sym (ap (λ os. get_or os v None) (no_change was)) ∙ e))
    ] refl
    | inr other ↦ let was : part_on v r ≡ Some after = sym (get_or-set_other r.places u v (changed f (part_on u r)) None other) ∙ e in record { before = after; was = was; then_is = stays v after other was }
  ]

  pub found_changed : part_on u (change_on f u r) ≡ changed f (part_on u r)
  found_changed = elim (part_on u r) as (λ o. part_on u r ≡ o → part_on u (change_on f u r) ≡ changed f o) [
    | Some h ↦ λ was. same_place h was
    | None ↦ λ was. ap (λ os. get_or os u None) (no_change was) ∙ was
  ] refl

  pub owned_same : (v : ℕ) → is_owned (part_on v (change_on f u r)) ≡ is_owned (part_on v r)
  owned_same v = elim (cases_eq v u) [
    | inl is ↦ elim (part_on u r) as (λ o. part_on u r ≡ o → is_owned (part_on v (change_on f u r)) ≡ is_owned (part_on v r)) [
      | Some h ↦ λ was. ap (λ w. is_owned (part_on w (change_on f u r))) is ∙ ap is_owned (same_place h was) ∙ sym (ap is_owned was) ∙ ap (λ w. is_owned (part_on w r)) (sym is)
      | None ↦ λ was. ap (λ os. is_owned (get_or os v None)) (no_change was)
    ] refl
    | inr other ↦ ap is_owned (get_or-set_other r.places u v (changed f (part_on u r)) None other)
  ]

  pub order_kept : IsAddedInOrder r → IsAddedInOrder (change_on f u r)
  order_kept o = record { owned = λ i h. owned_same (get_or r.order i 0) ∙ o.owned i h; apart = o.apart }

-- where an edge has no place
pub without_place : (e : ℕ) (o : Option Holding) → has_place e o ≡ true → is_owned o ≡ true
without_place e None h = h
without_place e (Some x) h = refl

pub some_part : (o : Option Holding) → is_owned o ≡ true → (C : Type 0) → ((h : Holding) → o ≡ Some h → C) → C
some_part None h C k = absurd (true≢false (sym h))
some_part (Some x) h C k = k x refl

pub owners_kept : (owners : List ℕ) (r r' : Rack)
    → ((v : ℕ) (after : Holding) → part_on v r' ≡ Some after → ComesOf (λ h h'. edges_of_parcels h'.parcels ≡ edges_of_parcels h.parcels) v r after)
    → AreOwners owners r → AreOwners owners r'
owners_kept owners r r' from known e v has =
    some_part (part_on v r') (without_place e (part_on v r') has) (get_or owners e 0 ≡ v) (λ after is.
    let c = from v after is in
    let there : has_place e (Some after) ≡ true = ap (has_place e) (sym is) ∙ has in
    known e v (ap (has_place e) c.was ∙ ap (λ es. has_edge es e) (sym c.then_is) ∙ there))

-- the part that has an edge is the first that has it
module _ (e : ℕ) where
  pub first_at : (os : List (Option Holding)) (u : ℕ) → has_place e (get_or os u None) ≡ true → ((v : ℕ) → has_place e (get_or os v None) ≡ true → v ≡ u)
      → (first_with_edge e os ≡ get_or os u None) × ((f : Holding → Holding) → change_first f e os ≡ set os u (changed f (get_or os u None)))
  first_at [] u has once = absurd (true≢false (sym has))
  first_at (o ∷ os) zero has once = (ap (λ b. cond b o (first_with_edge e os)) has, λ f. ap (λ b. cond b (changed f o ∷ os) (o ∷ change_first f e os)) has)
  first_at (o ∷ os) (suc u) has once =
      let not_here : has_place e o ≡ false = elim (has_place e o) as (λ b. has_place e o ≡ b → b ≡ false) [
        | true ↦ λ is. (let z = once 0 is in absurd (omega (arith, z)))
        | false ↦ λ is. refl
      ] refl in
      let rest = first_at os u has (λ v h. let z = once (suc v) h in omega (arith, z)) in
      (ap (λ b. cond b o (first_with_edge e os)) not_here ∙ rest.0, λ f. ap (λ b. cond b (changed f o ∷ os) (o ∷ change_first f e os)) not_here ∙ ap (λ xs. o ∷ xs) (rest.1 f))

  pub none_at : (os : List (Option Holding)) → ((v : ℕ) → has_place e (get_or os v None) ≡ false)
      → (first_with_edge e os ≡ None) × ((f : Holding → Holding) → change_first f e os ≡ os)
  none_at [] none = (refl, λ f. refl)
  none_at (o ∷ os) none =
      let rest = none_at os (λ v. none (suc v)) in
      (ap (λ b. cond b o (first_with_edge e os)) (none 0) ∙ rest.0, λ f. ap (λ b. cond b (changed f o ∷ os) (o ∷ change_first f e os)) (none 0) ∙ ap (λ xs. o ∷ xs) (rest.1 f))

module _ (owners : List ℕ) (r : Rack) (known : AreOwners owners r) (e u : ℕ) (is : u ≡ get_or owners e 0) where
  pub has_at_owner : has_place e (part_on u r) ≡ true → (first_with_edge e r.places ≡ part_on u r) × ((f : Holding → Holding) → change_first f e r.places ≡ set r.places u (changed f (part_on u r)))
  has_at_owner has = first_at e r.places u has (λ v h. sym (known e v h) ∙ sym is)

  pub nowhere_else : has_place e (part_on u r) ≡ false → (v : ℕ) → has_place e (part_on v r) ≡ false
  nowhere_else none v = elim (has_place e (part_on v r)) as (λ b. has_place e (part_on v r) ≡ b → b ≡ false) [
    | true ↦ λ h. absurd (true≢false (sym h ∙ ap (λ w. has_place e (part_on w r)) (sym (known e v h) ∙ sym is) ∙ none))
    | false ↦ λ h. refl
  ] refl

  pub none_at_owner : has_place e (part_on u r) ≡ false → (first_with_edge e r.places ≡ None) × ((f : Holding → Holding) → change_first f e r.places ≡ r.places)
  none_at_owner none = none_at e r.places (nowhere_else none)

  pub may_post_first : may_post e (first_with_edge e r.places) ≡ (has_place e (part_on u r) && may_post e (part_on u r))
  may_post_first = elim (has_place e (part_on u r)) as (λ b. has_place e (part_on u r) ≡ b → may_post e (first_with_edge e r.places) ≡ (b && may_post e (part_on u r))) [
    | true ↦ λ has. ap (may_post e) (has_at_owner has).0
    | false ↦ λ none. ap (may_post e) (none_at_owner none).0
  ] refl

  pub owned_first : is_owned (first_with_edge e r.places) ≡ true → has_place e (part_on u r) ≡ true
  owned_first owned = elim (has_place e (part_on u r)) as (λ b. has_place e (part_on u r) ≡ b → b ≡ true) [
    | true ↦ λ _. refl
    | false ↦ λ none. absurd (true≢false (sym owned ∙ ap is_owned (none_at_owner none).0))
  ] refl

  pub emptied_is : (f : Holding → Holding) (r' : Rack) → r' ≡ (if has_place e (part_on u r) then change_on f u r else r) → change_edge f e r ≡ r'
  emptied_is f r' is' = elim (has_place e (part_on u r)) as (λ b. has_place e (part_on u r) ≡ b → r' ≡ (if b then change_on f u r else r) → change_edge f e r ≡ r') [
    | true ↦ λ has q. ap (λ os. let x : Rack = record { places = os; order = r.order } in x) ((has_at_owner has).1 f) ∙ sym q
    | false ↦ λ none q. ap (λ os. let x : Rack = record { places = os; order = r.order } in x) ((none_at_owner none).1 f) ∙ sym q
  ] refl is'

  pub changed_is : (f : Holding → Holding) → has_place e (part_on u r) ≡ true → change_edge f e r ≡ change_on f u r
  changed_is f has = ap (λ os. let x : Rack = record { places = os; order = r.order } in x) ((has_at_owner has).1 f)

  pub place_for : is_owned (first_with_edge e r.places) ≡ has_place e (part_on u r)
  place_for = elim (has_place e (part_on u r)) as (λ b. has_place e (part_on u r) ≡ b → is_owned (first_with_edge e r.places) ≡ b) [
    | true ↦ λ has. ap is_owned (has_at_owner has).0 ∙ without_place e (part_on u r) has
    | false ↦ λ none. ap is_owned (none_at_owner none).0
  ] refl
