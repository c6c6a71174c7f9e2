-- The runs that a probe gives are the runs that a dump is made of.
use Rattle.std.proofs.Common.{◌≡◌, ℕ, zero, suc, ◌+◌, ◌-◌, List, [], ◌∷◌, length, refl, ap}
use Rattle.load_plan.specs.declared.plan.Plan.{Plan}
use Rattle.line_probe.specs.Heard.{AreProbed, heard_from}
use Rattle.line_probe.specs.declared.run.Run.{Run}
use Rattle.line_probe.specs.declared.tap.Tap.{Tap}
use Rattle.wave_dump.specs.Heard.{AreTapRuns, all_heard}

-- a tap hears one symbol in each half bit
pub length-heard_from : (plan : Plan) (tap : Tap) (from n : ℕ) → length (heard_from plan tap from n) ≡ n
length-heard_from plan tap from zero = refl
length-heard_from plan tap from (suc n) = ap suc (length-heard_from plan tap (from + 1) n)

pub probed_are_heard : (plan : Plan) (from to : ℕ) (taps : List Tap) (lists : List (List Run)) → AreProbed plan from to taps lists → AreTapRuns from to (all_heard plan taps from to) lists
probed_are_heard plan from to [] [] h = tt
probed_are_heard plan from to [] (runs ∷ lists) h = absurd h
probed_are_heard plan from to (tap ∷ taps) [] h = absurd h
probed_are_heard plan from to (tap ∷ taps) (runs ∷ lists) h =
    (length-heard_from plan tap from (to - from), h.0, probed_are_heard plan from to taps lists h.1)
