-- The runs of what taps hear are such as can be heard.
use Rattle.std.proofs.Common.{◌≡◌, ℕ, zero, suc, ◌+◌, ◌-◌, ◌<◌, ◌≤◌, List, [], ◌∷◌, length, refl, ap, arith, Some}
use Rattle.std.specs.Prelude.{slice_get}
use Rattle.std.specs.List.{AllByRecursion}
use Rattle.std.proofs.lemmas.Option.{same_Some}
use Rattle.load_plan.specs.declared.plan.Plan.{Plan}
use Rattle.load_plan.proofs.PlansAreSound.{sound_of_plan}
use Rattle.network.specs.Outputs.{half_bits}
use Rattle.line_probe.specs.Heard.{AreProbed, heard_from}
use Rattle.line_probe.specs.Runs.{AreHeardRuns, AreRunsOf}
use Rattle.line_probe.specs.declared.run.Run.{Run}
use Rattle.line_probe.specs.declared.tap.Tap.{Tap}

heard_count : (plan : Plan) (tap : Tap) (from n : ℕ) → length (heard_from plan tap from n) ≡ n
heard_count plan tap from zero = refl
heard_count plan tap from (suc n) = ap suc (heard_count plan tap (from + 1) n)

heard_runs : (plan : Plan) (from to : ℕ) (tap : Tap) (runs : List Run) → from < to → to ≤ half_bits plan → AreRunsOf from (heard_from plan tap from (to - from)) runs → AreHeardRuns runs
heard_runs plan from to tap runs order end are =
    record {
      from = from;
      symbols = heard_from plan tap from (to - from);
      runs_of = are;
      within = omega (arith, heard_count plan tap from (to - from), order, end, (sound_of_plan plan).bits_most);
    }

-- the runs of each tap
pub probed_runs : (plan : Plan) (from to : ℕ) (taps : List Tap) (lists : List (List Run)) → from < to → to ≤ half_bits plan → AreProbed plan from to taps lists → AllByRecursion AreHeardRuns lists
probed_runs plan from to [] [] order end h = tt
probed_runs plan from to [] (l ∷ ls) order end h = absurd h
probed_runs plan from to (x ∷ xs) [] order end h = absurd h
probed_runs plan from to (x ∷ xs) (l ∷ ls) order end h = (heard_runs plan from to x l order end h.0, probed_runs plan from to xs ls order end h.1)

-- one of them
pub one_probed : (lists : List (List Run)) (k : ℕ) (runs : List Run) → AllByRecursion AreHeardRuns lists → slice_get lists k ≡ Some runs → AreHeardRuns runs
one_probed [] k runs all h = cc h
one_probed (l ∷ ls) zero runs all h = rw (← same_Some _ _ h) all.0
one_probed (l ∷ ls) (suc k) runs all h = one_probed ls k runs all.1 h
