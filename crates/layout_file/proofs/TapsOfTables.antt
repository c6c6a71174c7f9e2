-- The first tap that is taken, by the taps that stand so far in place of the tables before it.
use Rattle.std.proofs.Common.{◌≡◌, ℕ, ◌||◌, ◌==◌, if◌then◌else◌, List, [], ◌∷◌, ◌++◌, Option, None, Some, refl, ap, ap₂, inl, inr, bytes_eq, append-nil}
use Rattle.std.proofs.lemmas.Bool.{cases_Bool}
use Rattle.std.proofs.Math.Bool.{and_comm}
use Rattle.std.specs.List.{list_any}
use Rattle.layout_file.specs.declared.fault.Key.TheVariants as key
use Rattle.layout_file.specs.declared.fault.LayoutCode.TheVariants as code
use Rattle.layout_file.specs.declared.fault.LayoutFault.{LayoutFault}
use Rattle.layout_file.specs.JointFaults.{NamedTap, named_tap, has_tap, shares_place, is_taken, first_taken}
use Rattle.layout_file.specs.Spots.{Spot, fault}
use Rattle.layout_file.specs.Tree.{text_at, number_at}

-- the taps of these tables
abbrev pub named_taps : List Spot → List NamedTap
named_taps [] = []
named_taps (s ∷ ss) = if has_tap s.shape then named_tap s.members ∷ named_taps ss else named_taps ss

pub named_taps-append : (xs ys : List Spot) → named_taps (xs ++ ys) ≡ named_taps xs ++ named_taps ys
named_taps-append [] ys = refl
named_taps-append (x ∷ xs) ys =
    elim (cases_Bool (has_tap x.shape)) [
      | inl tap ↦ rw tap (ap (λ l. named_tap x.members ∷ l) (named_taps-append xs ys))
      | inr none ↦ rw none (named_taps-append xs ys)
    ]

-- the first tap that stands where one of these or an earlier one does
abbrev pub first_taken_after : List NamedTap → List Spot → Option LayoutFault
first_taken_after taps [] = None
first_taken_after taps (s ∷ ss) =
    if has_tap s.shape
    then if list_any (shares_place (named_tap s.members)) taps then Some (fault code.TapTaken s key.At) else first_taken_after (taps ++ named_tap s.members ∷ []) ss
    else first_taken_after taps ss

taken_among_taps : (segment : List ℕ) (at : ℕ) (ss : List Spot) → is_taken segment at ss ≡ list_any (shares_place (record { segment = segment; at = at })) (named_taps ss)
taken_among_taps segment at [] = refl
taken_among_taps segment at (s ∷ ss) =
    elim (cases_Bool (has_tap s.shape)) [
      | inl tap ↦ rw tap (ap₂ (λ a b. a || b) (and_comm (bytes_eq (text_at s.members key.Segment) segment) (number_at s.members key.At == at)) (taken_among_taps segment at ss))
      | inr none ↦ rw none (taken_among_taps segment at ss)
    ]

by_taps : (earlier ss : List Spot) → first_taken earlier ss ≡ first_taken_after (named_taps earlier) ss
by_taps earlier [] = refl
by_taps earlier (s ∷ ss) =
    let rest = by_taps (earlier ++ s ∷ []) ss in
    elim (cases_Bool (has_tap s.shape)) [
      | inl tap ↦
          let more = rw (named_taps-append earlier (s ∷ []), tap) at rest in
          rw (tap, taken_among_taps (text_at s.members key.Segment) (number_at s.members key.At) earlier, more) refl
      | inr none ↦
          let more = rw (named_taps-append earlier (s ∷ []), none, append-nil) at rest in
          rw none more
    ]

pub first_taken_after_none : (ss : List Spot) → first_taken [] ss ≡ first_taken_after [] ss
first_taken_after_none ss = by_taps [] ss
