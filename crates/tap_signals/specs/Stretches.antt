-- Stretches of one kind among half bits that are known one by one (profile). Half bits count from 0.
use Rattle.std.specs.Prelude.{◌≡◌, ◌≢◌, ℕ, ◌<◌, ◌≤◌, ◌⊎◌, max, min, Option, None, Some, List, [], ◌∷◌, ⊤}
use Rattle.std.specs.List.{AllByRecursion}
use Rattle.tap_signals.specs.declared.kind.SignalKind.{SignalKind}
use Rattle.tap_signals.specs.declared.stretch.Stretch.{Stretch}

-- The half bit is one of the stretch.
abbrev pub IsInStretch : ℕ → Stretch → Type 0
IsInStretch t s = (s.start ≤ t) × (t < s.end)

-- The half bit is in one of these stretches.
abbrev pub IsInOne : ℕ → List Stretch → Type 0
IsInOne t [] = ⊥
IsInOne t (s ∷ ss) = IsInStretch t s ⊎ IsInOne t ss

-- A stretch of half bits from `from` on and before `to`: at least one, and in each a signal of its kind is emitted.
pub record IsStretch (f : ℕ → Option SignalKind) (from to : ℕ) (s : Stretch) : Type 0 where
  pub begins : from ≤ s.start
  pub some : s.start < s.end
  pub ends : s.end ≤ to
  pub alike : (t : ℕ) → IsInStretch t s → f t ≡ Some s.kind

-- The first of these stretches, if there is one, begins when this one is over, and is of another kind if it begins at
-- once.
abbrev pub IsBeforeNext : Stretch → List Stretch → Type 0
IsBeforeNext s [] = ⊤
IsBeforeNext s (x ∷ xs) = (s.end ≤ x.start) × (s.end ≡ x.start → s.kind ≢ x.kind)

-- Each of these stretches is before the next one.
abbrev pub AreInTurn : List Stretch → Type 0
AreInTurn [] = ⊤
AreInTurn (s ∷ ss) = IsBeforeNext s ss × AreInTurn ss

-- The stretches of one kind, in order of time, that the half bits from `from` on and before `to` make up. In half bit t
-- a signal of kind f t is emitted, or none. Each half bit in which one is emitted is in one of the stretches.
pub record AreStretches (f : ℕ → Option SignalKind) (from to : ℕ) (stretches : List Stretch) : Type 0 where
  pub each : AllByRecursion (IsStretch f from to) stretches
  pub every : (t : ℕ) → from ≤ t → t < to → f t ≢ None → IsInOne t stretches
  pub in_turn : AreInTurn stretches

-- The same of the half bits before t alone, of those from `from` on and before `to`.
abbrev pub AreStretchesTo : (ℕ → Option SignalKind) → ℕ → ℕ → ℕ → List Stretch → Type 0
AreStretchesTo f from to t stretches = AreStretches f from (max from (min t to)) stretches
