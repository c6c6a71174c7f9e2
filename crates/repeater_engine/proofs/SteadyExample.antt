-- An example of kept steadiness: a repeater of two ports with a delay of one half bit, before its first half bit.
use Rattle.std.proofs.Common.{ℕ, zero, suc, ◌<◌, Bool, true, false, List, [], ◌∷◌, map, refl, ap, arith}
use Rattle.std.proofs.lemmas.Bool.{false≢true}
use Rattle.std.specs.Fn.{iterate}
use Rattle.manchester_line.specs.declared.Sym.{Sym}
use Rattle.manchester_line.specs.declared.Sym.TheVariants as sym
use Rattle.manchester_line.specs.Line.{is_signal}
use Rattle.repeater_core.specs.declared.modes.Mode.{Mode}
use Rattle.repeater_core.specs.declared.modes.Mode.TheVariants.{Idle}
use Rattle.repeater_core.specs.Step.{RepeaterDevice, new_state, mode_next, chosen, after, emitted_by, decided_by}
use Rattle.repeater_core.specs.Steady.{IsSteadyStep}
use Rattle.repeater_engine.specs.KeptRepeaters.{IsKnownSteady}

abbrev at_rest : RepeaterDevice
at_rest = new_state 2 1

abbrev no_signals : List Sym
no_signals = sym.Idle ∷ sym.Idle ∷ []

still : (k : ℕ) → k < 2 → IsSteadyStep no_signals (map is_signal (emitted_by at_rest)) (map is_signal (decided_by no_signals at_rest)) (iterate (after no_signals) k at_rest)
unfolding chosen mode_next
still zero h = record { mode = refl; emits = refl; decides = refl; none_closes = refl; none_opens = refl; none_halted = refl }
still (suc zero) h = record { mode = refl; emits = refl; decides = refl; none_closes = refl; none_opens = refl; none_halted = refl }
still (suc (suc k)) h = absurd (omega (arith, h))

-- where its ports hear nothing, it is steady for two half bits
pub steady_for_two : IsKnownSteady 2 at_rest no_signals 2
steady_for_two = record { hearing = refl; stays_steady = still }

abbrev is_idle_mode : Mode → Bool
is_idle_mode Idle = true
is_idle_mode _ = false

-- where the first port hears a signal, it is not, even for one: it begins to repeat
pub not_steady : ¬ IsKnownSteady 2 at_rest (sym.Hi ∷ sym.Idle ∷ []) 1
unfolding mode_next
not_steady known = false≢true (ap is_idle_mode (known.stays_steady 0 (omega arith)).mode)
