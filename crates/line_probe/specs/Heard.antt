-- What taps hear in the network of a plan (profile). Half bits count from 0.
use Rattle.std.specs.Prelude.{ℕ, zero, suc, ◌+◌, ◌-◌, List, [], ◌∷◌, ◌++◌, map}
use Rattle.manchester_line.specs.declared.Sym.{Sym}
use Rattle.load_plan.specs.declared.plan.Plan.{Plan}
use Rattle.network.specs.Times.{heard}
use Rattle.line_probe.specs.Runs.{AreRunsOf}
use Rattle.line_probe.specs.Taps.{tap_number_of}
use Rattle.line_probe.specs.declared.run.Run.{Run}
use Rattle.line_probe.specs.declared.tap.Tap.{Tap}

-- what the tap hears in half bit t
abbrev pub tap_heard : Plan → ℕ → Tap → Sym
tap_heard plan t tap = heard plan (tap_number_of plan.layout tap) t

-- what the tap hears in so many half bits from this one on
abbrev pub heard_from : Plan → Tap → ℕ → ℕ → List Sym
heard_from plan tap from zero = []
heard_from plan tap from (suc n) = tap_heard plan from tap ∷ heard_from plan tap (from + 1) n

-- what all these taps hear in so many half bits from this one on, half bit by half bit
abbrev pub rows_of_taps : Plan → List Tap → ℕ → ℕ → List Sym
rows_of_taps plan taps from zero = []
rows_of_taps plan taps from (suc n) = map (tap_heard plan from) taps ++ rows_of_taps plan taps (from + 1) n

-- these are, for each tap, the runs of what it hears from half bit `from` on and before half bit `to`
abbrev pub AreProbed : Plan → ℕ → ℕ → List Tap → List (List Run) → Type 0
AreProbed plan from to [] [] = Unit {0}
AreProbed plan from to (tap ∷ taps) (runs ∷ lists) =
    AreRunsOf from (heard_from plan tap from (to - from)) runs × AreProbed plan from to taps lists
AreProbed plan from to _ _ = ⊥
