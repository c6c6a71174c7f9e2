-- Parcels change places with those in the hand, one after the other.
use Rattle.std.proofs.Common.{◌≡◌, ◌≢◌, ℕ, zero, suc, ◌+◌, ◌<◌, ◌≤◌, inl, inr, List, [], ◌∷◌, ◌++◌, map, set, take, length, get_or, refl, sym, ap, ap₂, ◌∙◌, arith}
use Rattle.std.proofs.lemmas.List.{length-map, length-set, get_or-map, get_or-set_same, get_or-set_other, get_or_append_left}
use Rattle.std.proofs.lemmas.Bool.{cases_eq}
use Rattle.net_parts.specs.declared.parcel.Parcel.{Parcel}
use Rattle.turn_run.specs.ParcelsInTurn.{EachStandsOnce, AreExchanged}

pub none_exchanged : (es : List ℕ) (parcels hand : List Parcel) → AreExchanged es 0 parcels hand parcels hand
none_exchanged es parcels hand = record {
  many = refl;
  room = refl;
  out = λ j d h. absurd (omega (arith, h));
  back = λ j d h. absurd (omega (arith, h));
  others = λ e d h. refl;
  later = λ j d h. refl;
}

-- one more
pub one_exchanged : (es : List ℕ) (k : ℕ) (p h p₁ h₁ p₂ h₂ : List Parcel) (e : ℕ) (a b : Parcel) → AreExchanged es k p h p₁ h₁ → EachStandsOnce es → k < length es → get_or es k 0 ≡ e
    → e < length p → k < length h → a ≡ get_or p₁ e a → b ≡ get_or h₁ k b → p₂ ≡ set p₁ e b → h₂ ≡ set h₁ k a → AreExchanged es (k + 1) p h p₂ h₂
one_exchanged es k p h p₁ h₁ p₂ h₂ e a b x apart in' is place room of_parcels of_hand parcels hand =
    let many = x.many in
    let size = x.room in
    let fresh : (j : ℕ) → j < k → get_or es j 0 ≢ e = λ j l same. apart j k l in' (same ∙ sym is) in
    let a_is : (d : Parcel) → a ≡ get_or p e d = λ d. of_parcels ∙ x.others e a (λ j l. fresh j l) ∙ same_default p e a d place in
    let b_is : (d : Parcel) → b ≡ get_or h k d = λ d. of_hand ∙ x.later k b (omega arith) ∙ same_default h k b d room in
    record {
      many = ap length parcels ∙ length-set p₁ e b ∙ many;
      room = ap length hand ∙ length-set h₁ k a ∙ size;
      out = λ j d l. ap (λ xs. get_or xs j d) hand ∙ elim (cases_eq j k) [
        | inl at ↦ ap (λ i. get_or (set h₁ k a) i d) at ∙ get_or-set_same h₁ k a d (omega (arith, size, room)) ∙ a_is d ∙ ap (λ i. get_or p i d) (sym is ∙ ap (λ i. get_or es i 0) (sym at))
        | inr ne ↦ get_or-set_other h₁ k j a d ne ∙ x.out j d (omega (arith, l, ne))
      ];
      back = λ j d l. ap (λ xs. get_or xs (get_or es j 0) d) parcels ∙ elim (cases_eq j k) [
        | inl at ↦ ap (λ i. get_or (set p₁ e b) i d) (ap (λ i. get_or es i 0) at ∙ is) ∙ get_or-set_same p₁ e b d (omega (arith, many, place)) ∙ b_is d ∙ ap (λ i. get_or h i d) (sym at)
        | inr ne ↦ get_or-set_other p₁ e (get_or es j 0) b d (fresh j (omega (arith, l, ne))) ∙ x.back j d (omega (arith, l, ne))
      ];
      others = λ i d none. ap (λ xs. get_or xs i d) parcels ∙ get_or-set_other p₁ e i b d (λ same. none k (omega arith) (is ∙ sym same)) ∙ x.others i d (λ j l. none j (omega (arith, l)));
      later = λ j d l. ap (λ xs. get_or xs j d) hand ∙ get_or-set_other h₁ k j a d (λ same. omega (arith, same, l)) ∙ x.later j d (omega (arith, l));
    }
  where
    same_default : (xs : List Parcel) (i : ℕ) (c d : Parcel) → i < length xs → get_or xs i c ≡ get_or xs i d
    same_default [] i c d l = absurd (omega (arith, l))
    same_default (y ∷ ys) zero c d l = refl
    same_default (y ∷ ys) (suc i) c d l = same_default ys i c d (omega (arith, l))

-- the first in a hand, by what is said of each
pub first_in_hand : (f : ℕ → Parcel) (es : List ℕ) (h : List Parcel) → length es ≤ length h → ((j : ℕ) (d : Parcel) → j < length es → get_or h j d ≡ f (get_or es j 0)) → take (length es) h ≡ map f es
first_in_hand f [] h l each = refl
first_in_hand f (e ∷ es) [] l each = absurd (omega (arith, l))
first_in_hand f (e ∷ es) (p ∷ h) l each = ap₂ ◌∷◌ (each 0 p (omega arith)) (first_in_hand f es h (omega (arith, l)) (λ j d in'. each (suc j) d (omega (arith, in'))))

-- what is made of each, before others
pub each_made : (f : ℕ → Parcel) (es : List ℕ) (made rest : List Parcel) (j : ℕ) (d : Parcel) → made ≡ map f es → j < length es → get_or (made ++ rest) j d ≡ f (get_or es j 0)
each_made f es made rest j d is l =
    let size = ap length is ∙ length-map es f in
    get_or_append_left made rest d j (omega (arith, size, l)) ∙ ap (λ ps. get_or ps j d) is ∙ get_or-map f es j 0 d l
