-- Two lists of stretches of the same half bits are equal.
use Rattle.std.proofs.Common.{◌≡◌, ◌≢◌, ℕ, ◌≤◌, List, [], ◌∷◌, Option, None, Some, inl, inr, refl, sym, ap, ap₂, subst, ◌∙◌, arith}
use Rattle.std.specs.List.{AllByRecursion}
use Rattle.std.proofs.lemmas.Bool.{cases_lt}
use Rattle.std.proofs.lemmas.Option.{none-some, same_Some}
use Rattle.tap_signals.specs.declared.kind.SignalKind.{SignalKind}
use Rattle.tap_signals.specs.declared.stretch.Stretch.{Stretch}
use Rattle.tap_signals.specs.Laws.{StretchesAreDetermined}
use Rattle.tap_signals.specs.Stretches.{IsInOne, IsStretch, IsBeforeNext, AreInTurn, AreStretches}
use Rattle.tap_signals.proofs.StretchesGrow.{all_so}

-- no half bit of them is before the first one's first
not_before : (f : ℕ → Option SignalKind) (from to t : ℕ) (s : Stretch) (ss : List Stretch) → AllByRecursion (IsStretch f from to) (s ∷ ss) → AreInTurn (s ∷ ss) → IsInOne t (s ∷ ss) → s.start ≤ t
not_before f from to t s [] all turn (inl here) = here.0
not_before f from to t s [] all turn (inr there) = absurd there
not_before f from to t s (x ∷ xs) all turn (inl here) = here.0
not_before f from to t s (x ∷ xs) all turn (inr there) =
    let later = not_before f from to t x xs all.1 turn.1 there in
    let some = all.0.some in
    let before = turn.0.0 in
    omega (arith, later, some, before)

-- those behind a stretch begin when it is over
begin_after : (f : ℕ → Option SignalKind) (from to : ℕ) (s : Stretch) (ss : List Stretch) → AllByRecursion (IsStretch f from to) ss → IsBeforeNext s ss → AreInTurn ss → AllByRecursion (IsStretch f s.end to) ss
begin_after f from to s [] all before turn = tt
begin_after f from to s (x ∷ xs) all before turn =
    let some = all.0.some in
    let after = before.0 in (
      record { begins = after; some = some; ends = all.0.ends; alike = all.0.alike },
      all_so (IsStretch f x.end to) (IsStretch f s.end to) (λ z h. record { begins = (let begins = h.begins in omega (arith, begins, some, after)); some = h.some; ends = h.ends; alike = h.alike }) xs
          (begin_after f from to x xs all.1 turn.0 turn.1),
    )

rest_are : (f : ℕ → Option SignalKind) (from to : ℕ) (x : Stretch) (xs : List Stretch) → AreStretches f from to (x ∷ xs) → AreStretches f x.end to xs
rest_are f from to x xs h =
    let begins = h.each.0.begins in
    let some = h.each.0.some in
    record {
      each = begin_after f from to x xs h.each.1 h.in_turn.0 h.in_turn.1;
      every = λ t l m is. elim (h.every t (omega (arith, begins, some, l)) m is) [
        | inl here ↦ absurd (let over = here.1 in omega (arith, over, l))
        | inr later ↦ later
      ];
      in_turn = h.in_turn.1;
    }

-- a half bit in which something is emitted
emits : (f : ℕ → Option SignalKind) (t : ℕ) (kind : SignalKind) → f t ≡ Some kind → f t ≢ None
emits f t kind is none = none-some kind (sym none ∙ is)

-- a list has the first half bit of any other one
first_in : (f : ℕ → Option SignalKind) (from to : ℕ) (x : Stretch) (xs ys : List Stretch) → AreStretches f from to (x ∷ xs) → AreStretches f from to ys → IsInOne x.start ys
first_in f from to x xs ys hx hy =
    let one = hx.each.0 in
    let some = one.some in
    let ends = one.ends in
    hy.every x.start one.begins (omega (arith, some, ends)) (emits f x.start x.kind (one.alike x.start (omega arith, some)))

no_earlier : (f : ℕ → Option SignalKind) (from to : ℕ) (x y : Stretch) (xs ys : List Stretch) → AreStretches f from to (x ∷ xs) → AreStretches f from to (y ∷ ys) → y.start ≤ x.start
no_earlier f from to x y xs ys hx hy = not_before f from to x.start y ys hy.each hy.in_turn (first_in f from to x xs (y ∷ ys) hx hy)

-- where a stretch is over, no other one of its kind begins
not_at_once : (f : ℕ → Option SignalKind) (from to : ℕ) (x : Stretch) (xs : List Stretch) → AllByRecursion (IsStretch f from to) xs → IsBeforeNext x xs → AreInTurn xs → f x.end ≡ Some x.kind → IsInOne x.end xs → ⊥
not_at_once f from to x [] all before turn is there = there
not_at_once f from to x (z ∷ zs) all before turn is there =
    let later = not_before f from to x.end z zs all turn there in
    let after = before.0 in
    let touch : x.end ≡ z.start = omega (arith, later, after) in
    let some = all.0.some in
    before.1 touch (same_Some x.kind z.kind (sym is ∙ ap f touch ∙ all.0.alike z.start (omega arith, some)))

no_longer : (f : ℕ → Option SignalKind) (from to : ℕ) (x y : Stretch) (xs ys : List Stretch) → AreStretches f from to (x ∷ xs) → AreStretches f from to (y ∷ ys) → x.start ≡ y.start → x.kind ≡ y.kind → y.end ≤ x.end
no_longer f from to x y xs ys hx hy start kind = elim (cases_lt x.end y.end) [
  | inl longer ↦
      let begins = hx.each.0.begins in
      let some = hx.each.0.some in
      let ends = hy.each.0.ends in
      let on : f x.end ≡ Some y.kind = hy.each.0.alike x.end (omega (arith, some, start), longer) in
      absurd (elim (hx.every x.end (omega (arith, begins, some)) (omega (arith, longer, ends)) (emits f x.end y.kind on)) [
        | inl here ↦ (let within = here.1 in omega (arith, within))
        | inr there ↦ not_at_once f from to x xs hx.each.1 hx.in_turn.0 hx.in_turn.1 (on ∙ ap Some (sym kind)) there
      ])
  | inr over ↦ over
]

abbrev stretch_of : ℕ → ℕ → SignalKind → Stretch
stretch_of start end kind = record { start = start; end = end; kind = kind }

same_stretch : (x y : Stretch) → x.start ≡ y.start → x.end ≡ y.end → x.kind ≡ y.kind → x ≡ y
same_stretch x y start end kind = ap₂ (λ a b. stretch_of a b x.kind) start end ∙ ap (stretch_of y.start y.end) kind

pub stretches_are_determined : StretchesAreDetermined
stretches_are_determined f from to [] [] hx hy = refl
stretches_are_determined f from to [] (y ∷ ys) hx hy = absurd (first_in f from to y ys [] hy hx)
stretches_are_determined f from to (x ∷ xs) [] hx hy = absurd (first_in f from to x xs [] hx hy)
stretches_are_determined f from to (x ∷ xs) (y ∷ ys) hx hy =
    let early = no_earlier f from to x y xs ys hx hy in
    let late = no_earlier f from to y x ys xs hy hx in
    let start : x.start ≡ y.start = omega (arith, early, late) in
    let one = hx.each.0 in
    let other = hy.each.0 in
    let some = one.some in
    let more = other.some in
    let kind : x.kind ≡ y.kind = same_Some x.kind y.kind (sym (one.alike x.start (omega arith, some)) ∙ ap f start ∙ other.alike y.start (omega arith, more)) in
    let long = no_longer f from to x y xs ys hx hy start kind in
    let short = no_longer f from to y x ys xs hy hx (sym start) (sym kind) in
    let end : x.end ≡ y.end = omega (arith, long, short) in
    let rest : AreStretches f x.end to ys = subst (λ e. AreStretches f e to ys) (sym end) (rest_are f from to y ys hy) in
    ap₂ ◌∷◌ (same_stretch x y start end kind) (stretches_are_determined f x.end to xs ys (rest_are f from to x xs hx) rest)
