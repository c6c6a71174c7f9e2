-- Stretches of a tap don't overlap, and those that touch are of different kinds.
use Rattle.std.proofs.Common.{◌≡◌, ◌≢◌, ℕ, zero, suc, ◌<◌, ◌≤◌, List, [], ◌∷◌, Option, Some, subst, arith}
use Rattle.std.specs.Prelude.{slice_get}
use Rattle.std.specs.List.{AllByRecursion}
use Rattle.std.proofs.lemmas.Option.{none-some, same_Some}
use Rattle.tap_signals.specs.declared.kind.SignalKind.{SignalKind}
use Rattle.tap_signals.specs.declared.stretch.Stretch.{Stretch}
use Rattle.tap_signals.specs.Laws.{StretchesAreApart}
use Rattle.tap_signals.specs.Stretches.{IsStretch, IsBeforeNext, AreInTurn}

abbrev AreApart : Stretch → Stretch → Type 0
AreApart s x = (s.end ≤ x.start) × (s.end ≡ x.start → s.kind ≢ x.kind)

after_first : (f : ℕ → Option SignalKind) (from to : ℕ) (s : Stretch) (ss : List Stretch) → AllByRecursion (IsStretch f from to) ss → IsBeforeNext s ss → AreInTurn ss
    → (j : ℕ) (x : Stretch) → slice_get ss j ≡ Some x → AreApart s x
after_first f from to s [] all before turn j x is = absurd (none-some x is)
after_first f from to s (y ∷ ss) all before turn zero x is = subst (AreApart s) (same_Some y x is) before
after_first f from to s (y ∷ ss) all before turn (suc j) x is =
    let later = after_first f from to y ss all.1 turn.0 turn.1 j x is in
    let some : y.start < y.end = all.0.some in
    let far : s.end < x.start = omega (arith, before.0, some, later.0) in
    (omega (arith, far), λ touch. absurd (omega (arith, far, touch)))

apart : (f : ℕ → Option SignalKind) (from to : ℕ) (ss : List Stretch) → AllByRecursion (IsStretch f from to) ss → AreInTurn ss
    → (i j : ℕ) (s x : Stretch) → slice_get ss i ≡ Some s → slice_get ss j ≡ Some x → i < j → AreApart s x
apart f from to [] all turn i j s x is js l = absurd (none-some s is)
apart f from to (y ∷ ss) all turn i zero s x is js l = absurd (omega (arith, l))
apart f from to (y ∷ ss) all turn zero (suc j) s x is js l = subst (λ z. AreApart z x) (same_Some y s is) (after_first f from to y ss all.1 turn.0 turn.1 j x js)
apart f from to (y ∷ ss) all turn (suc i) (suc j) s x is js l = apart f from to ss all.1 turn.1 i j s x is js (omega (arith, l))

pub stretches_are_apart : StretchesAreApart
stretches_are_apart f from to stretches are i j s x is js l = apart f from to stretches are.each are.in_turn i j s x is js l
