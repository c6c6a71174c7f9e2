-- The lines of what a tap hears.
use Rattle.std.proofs.Common.{◌≡◌, ℕ, zero, suc, ◌+◌, List, [], ◌∷◌, ◌++◌, length, refl, ap, ◌∙◌}
use Rattle.load_plan.specs.declared.plan.Plan.{Plan}
use Rattle.line_probe.specs.Heard.{AreProbed, heard_from}
use Rattle.line_probe.specs.declared.run.Run.{Run}
use Rattle.line_probe.specs.declared.tap.Tap.{Tap}

-- a tap hears a symbol in each half bit
pub heard_long : (plan : Plan) (tap : Tap) (from n : ℕ) → length (heard_from plan tap from n) ≡ n
heard_long plan tap from zero = refl
heard_long plan tap from (suc n) = ap suc (heard_long plan tap (from + 1) n)

-- a line, and then two texts
pub text_joined : (new mid after done line a b runs bursts : List ℕ) → new ≡ [] → mid ≡ new ++ line → after ≡ mid ++ a → done ≡ after ++ b → a ≡ runs → b ≡ bursts → done ≡ line ++ runs ++ bursts
text_joined new mid after done line a b runs bursts none one two three same_runs same_bursts =
    rw (← same_runs, ← same_bursts) (three ∙ ap (λ (xs : List ℕ). xs ++ b) (two ∙ ap (λ (xs : List ℕ). xs ++ a) (one ∙ ap (λ (xs : List ℕ). xs ++ line) none)))

-- as many lists of runs as taps
pub probed_many : (plan : Plan) (from to : ℕ) (taps : List Tap) (lists : List (List Run)) → AreProbed plan from to taps lists → length lists ≡ length taps
probed_many plan from to [] [] h = refl
probed_many plan from to [] (runs ∷ lists) h = absurd h
probed_many plan from to (tap ∷ taps) [] h = absurd h
probed_many plan from to (tap ∷ taps) (runs ∷ lists) h = ap suc (probed_many plan from to taps lists h.1)
