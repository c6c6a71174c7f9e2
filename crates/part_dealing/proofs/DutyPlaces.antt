-- The last segment of a repeater, and the place of a turn.
use Rattle.std.proofs.Common.{◌≡◌, ℕ, ◌+◌, ◌<◌, ◌≤◌, Bool, true, false, ltb, inl, inr, List, length, get_or, refl, sym, ap, ◌∙◌, arith, subst}
use Rattle.std.specs.Prelude.{◌⊎◌, max, Any}
use Rattle.std.proofs.lemmas.Bool.{ltb-true, ltb-false, false_from_ne_true, true_from_ne_false}
use Rattle.std.proofs.lemmas.List.{get_or_default}
use Rattle.std.proofs.lemmas.List.Sums.{position_or_len_is}
use Rattle.layout.specs.declared.lines.PortLine.{PortLine}
use Rattle.part_dealing.specs.declared.duties.Duty.{Duty}
use Rattle.part_dealing.specs.Turns.{turn_place}

later : (a b : ℕ) → a < b → ltb a b ≡ true
later a b l = true_from_ne_false (ltb a b) (λ e. let h = ltb-false a b e in absurd (omega (arith, h, l)))

not_later : (a b : ℕ) → b ≤ a → ltb a b ≡ false
not_later a b l = false_from_ne_true (ltb a b) (λ e. let h = ltb-true a b e in absurd (omega (arith, h, l)))

-- behind all that aren't later, and at the first that is, if there is one
pub turn_at : (last : ℕ) (turns : List Duty) (i : ℕ) (d : Duty) → i ≤ length turns
    → ((k : ℕ) (d : Duty) → k < i → (get_or turns k d).last ≤ last)
    → (i < length turns → last < (get_or turns i d).last) → turn_place last turns ≡ i
turn_at last turns i d within before at =
    position_or_len_is (λ (d : Duty). ltb last d.last) turns i d within (λ k l. not_later last (get_or turns k d).last (before k d l))
    (λ l. later last (get_or turns i d).last (at l))

abbrev pub IsOneOf : List PortLine → ℕ → ℕ → Type 0
IsOneOf ps n last = (last ≡ 0) ⊎ ((i : ℕ) × (i < n) × ((d : PortLine) → (get_or ps i d).segment ≡ last))

none_so_far : (ps : List PortLine) (k last new : ℕ) (e : PortLine) → k < length ps → new ≡ max last (get_or ps k e).segment
    → ((i : ℕ) (d : PortLine) → i < k → (get_or ps i d).segment ≤ last) → (i : ℕ) (d : PortLine) → (b : Bool) → ltb i k ≡ b → i < k + 1
    → (get_or ps i d).segment ≤ new
none_so_far ps k last new e within is old i d true l below = let h = old i d (ltb-true i k l) in omega (arith, is, h)
none_so_far ps k last new e within is old i d false l below =
    let h = ltb-false i k l in
    let same : i ≡ k = omega (arith, h, below) in
    subst (λ j. (get_or ps j d).segment ≤ new) (sym same)
    (let s = ap (λ (p : PortLine). p.segment) (get_or_default ps k d e within) in omega (arith, is, s))

pub none_later : (ps : List PortLine) (k last new : ℕ) (e : PortLine) → k < length ps → new ≡ max last (get_or ps k e).segment
    → ((i : ℕ) (d : PortLine) → i < k → (get_or ps i d).segment ≤ last) → (i : ℕ) (d : PortLine) → i < k + 1 → (get_or ps i d).segment ≤ new
none_later ps k last new e within is old i d below = none_so_far ps k last new e within is old i d (ltb i k) refl below

one_more : (ps : List PortLine) (k last new : ℕ) (e : PortLine) → k < length ps → new ≡ max last (get_or ps k e).segment
    → IsOneOf ps k last → (b : Bool) → ltb last (get_or ps k e).segment ≡ b → IsOneOf ps (k + 1) new
one_more ps k last new e within is old true l =
    let h = ltb-true last (get_or ps k e).segment l in
    let at : (get_or ps k e).segment ≡ new = omega (arith, is, h) in
    inr (k, omega arith, λ d. ap (λ (p : PortLine). p.segment) (get_or_default ps k d e within) ∙ at)
one_more ps k last new e within is (inl none) false l =
    let h = ltb-false last (get_or ps k e).segment l in inl (omega (arith, is, h, none))
one_more ps k last new e within is (inr one) false l =
    let h = ltb-false last (get_or ps k e).segment l in
    let same : last ≡ new = omega (arith, is, h) in
    inr (one.0, (let b = one.1 in omega (arith, b)), λ d. one.2 d ∙ same)

pub one_of_more : (ps : List PortLine) (k last new : ℕ) (e : PortLine) → k < length ps → new ≡ max last (get_or ps k e).segment
    → IsOneOf ps k last → IsOneOf ps (k + 1) new
one_of_more ps k last new e within is old = one_more ps k last new e within is old (ltb last (get_or ps k e).segment) refl

pub one_of_all : (ps : List PortLine) (n last : ℕ) → n ≤ length ps → IsOneOf ps n last
    → (last ≡ 0) ⊎ Any (λ (p : PortLine). p.segment ≡ last) ps
one_of_all ps n last most (inl none) = inl none
one_of_all ps n last most (inr one) =
    let d : PortLine = record { segment = 0; at = 0 } in
    let b = one.1 in
    let within : one.0 < length ps = omega (arith, b, most) in
    inr (one.0, get_or ps one.0 d, within, get_or_default ps one.0 (get_or ps one.0 d) d within, one.2 d)
