-- The runs that a dump is made of, and the dump of what taps hear in the network of a plan. Half bits count from 0.
use Rattle.std.specs.Prelude.{◌≡◌, ℕ, ◌-◌, List, [], ◌∷◌, length, map, ⊤}
use Rattle.manchester_line.specs.declared.Sym.{Sym}
use Rattle.load_plan.specs.declared.plan.Plan.{Plan}
use Rattle.line_probe.specs.Heard.{heard_from}
use Rattle.line_probe.specs.Runs.{AreRunsOf}
use Rattle.line_probe.specs.declared.run.Run.{Run}
use Rattle.line_probe.specs.declared.tap.Tap.{Tap}
use Rattle.wave_dump.specs.Dump.{dump_of_waves}

-- for each tap, these are the runs of the symbols that it hears from half bit `from` on and before half bit `to`
abbrev pub AreTapRuns : ℕ → ℕ → List (List Sym) → List (List Run) → Type 0
AreTapRuns from to [] [] = ⊤
AreTapRuns from to (symbols ∷ heard) (runs ∷ lists) =
    (length symbols ≡ to - from) × AreRunsOf from symbols runs × AreTapRuns from to heard lists
AreTapRuns from to _ _ = ⊥

-- what each of these taps hears in the network of a plan, from half bit `from` on and before half bit `to`
abbrev pub all_heard : Plan → List Tap → ℕ → ℕ → List (List Sym)
all_heard plan taps from to = map (λ tap. heard_from plan tap from (to - from)) taps

-- the dump of what these taps, under these names, hear in the network of a plan from half bit `from` on and before half
-- bit `to`
abbrev pub waves_of_plan : Plan → List (List ℕ) → List Tap → ℕ → ℕ → List ℕ
waves_of_plan plan names taps from to = dump_of_waves names from to (all_heard plan taps from to)
