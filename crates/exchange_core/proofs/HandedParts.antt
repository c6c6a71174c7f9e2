-- Racks that are widened, and parts that are handed out of them in order.
use Rattle.std.proofs.Common.{◌≡◌, ℕ, ◌+◌, ◌-◌, ◌<◌, ◌≤◌, true, List, [], ◌∷◌, ◌++◌, length, map, take, set, replicate, get_or, refl, sym, ap, ap₂, ◌∙◌, arith}
use Rattle.std.specs.Prelude.{Option, None, Result, Ok, Err, OnErr, is_ok}
use Rattle.std.proofs.lemmas.List.{append_assoc, replicate_more, take_more, map-append, get_or_default, get_or-set_other}
use Rattle.exchange_core.specs.Holdings.{Holding}
use Rattle.exchange_core.specs.Shares.{rack, is_owned, widened, IsAddedInOrder, Handed, handed}

pub answered : {X Y : Type 0} (r : Result X Y) (P : Type 0) → OnErr r P → (P → ⊥) → is_ok r ≡ true
answered (Ok x) P h n = refl
answered (Err y) P h n = absurd (n h)

pub widened_more : (n : ℕ) (os : List (Option Holding)) → length os ≤ n → widened n os ++ None ∷ [] ≡ widened (n + 1) os
widened_more n os h =
    let z : n - length os + 1 ≡ n + 1 - length os = omega (arith, h) in
    append_assoc os (replicate (n - length os) None) (None ∷ []) ∙ ap (λ xs. os ++ xs) (replicate_more (n - length os) None ∙ ap (λ m. replicate m None) z)

module _ (places : List (Option Holding)) (order : List ℕ) (o : IsAddedInOrder (rack places order)) (now : List (Option Holding)) (i x : ℕ) (in' : i < length order)
    (rest : (k : ℕ) → i ≤ k → k < length order → get_or now (get_or order k 0) None ≡ get_or places (get_or order k 0) None) (is : x ≡ get_or order i x) where
  at_zero : x ≡ get_or order i 0
  at_zero = is ∙ get_or_default order i x 0 in'

  pub same_now : get_or now x None ≡ get_or places x None
  same_now = ap (λ u. get_or now u None) at_zero ∙ rest i (omega arith) in' ∙ sym (ap (λ u. get_or places u None) at_zero)

  pub owned_now : is_owned (get_or now x None) ≡ true
  owned_now = ap is_owned same_now ∙ ap (λ u. is_owned (get_or places u None)) at_zero ∙ o.owned i in'

  pub rest_next : (now' : List (Option Holding)) → now' ≡ set now x None → (k : ℕ) → i + 1 ≤ k → k < length order → get_or now' (get_or order k 0) None ≡ get_or places (get_or order k 0) None
  rest_next now' q k later in-k =
      ap (λ os. get_or os (get_or order k 0) None) q
      ∙ get_or-set_other now x (get_or order k 0) None None (λ e. o.apart i k (omega (arith, later)) in-k (sym at_zero ∙ sym e))
      ∙ rest k (omega (arith, later)) in-k

  pub told_next : {P : Type 0} (f : P → Option Handed) (spare spare' : List P) (p : P) → map f spare ≡ map (λ u. handed (get_or places u None)) (take i order)
      → f p ≡ handed (get_or now x None) → spare' ≡ spare ++ p ∷ [] → map f spare' ≡ map (λ u. handed (get_or places u None)) (take (i + 1) order)
  told_next f spare spare' p told mine q =
      let g = λ (u : ℕ). handed (get_or places u None) in
      ap (map f) q ∙ map-append f spare (p ∷ []) ∙ ap₂ (λ a b. a ++ b ∷ []) told (mine ∙ ap handed same_now ∙ ap g at_zero)
      ∙ sym (map-append g (take i order) (get_or order i 0 ∷ [])) ∙ ap (map g) (sym (take_more order i 0 in'))
