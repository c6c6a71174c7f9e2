-- An example of listed taps: of two, the first emits one signal, in half bit 1, and the other nothing.
use Rattle.std.proofs.Common.{ℕ, zero, suc, ◌-◌, ◌<◌, List, [], ◌∷◌, get_or, refl, sym, ap, ◌∙◌, arith}
use Rattle.std.proofs.lemmas.Bool.{false≢true}
use Rattle.std.proofs.lemmas.List.{get_or_past}
use Rattle.manchester_line.specs.declared.Sym.TheVariants.{Idle, Hi}
use Rattle.manchester_line.specs.Line.{is_signal}
use Rattle.tap_lines.specs.TapLines.{TapLine, no_line, IsIdleFrom}
use Rattle.tap_lines.specs.TapLists.{AreLoudTaps, IsLeftOut}
use Rattle.tap_lines.proofs.EndsOfSignals.{symbol_at}
use Rattle.tap_lines.proofs.LineClasses.{class_off}

abbrev pub one_signal : TapLine
one_signal = record { at = 0; delay = 4; backlog = 10; base = 0; symbols = Idle ∷ Hi ∷ Idle ∷ []; room = 0 }

abbrev pub two_lines : List TapLine
two_lines = one_signal ∷ no_line ∷ []

nothing_emitted : (u : ℕ) → IsIdleFrom u no_line
nothing_emitted u v h = class_off no_line v refl ∙ ap is_signal (symbol_at no_line [] 0 v refl (omega arith) ∙ get_or_past [] (v - 0) Idle (omega arith))

idle_behind : IsIdleFrom 2 one_signal
idle_behind v h = class_off one_signal v refl ∙ ap is_signal (symbol_at one_signal (Idle ∷ Hi ∷ []) 1 v refl (omega arith) ∙ get_or_past (Idle ∷ Hi ∷ []) (v - 0) Idle (omega (arith, h)))

pub loud_at_one : ¬ IsIdleFrom 1 one_signal
loud_at_one idle = false≢true (sym (idle 1 (omega arith)))

abbrev pub first_alone : List ℕ
first_alone = 0 ∷ []

first_within : (i : ℕ) → i < 1 → get_or first_alone i 0 < 2
first_within zero h = omega arith
first_within (suc i) h = absurd (omega (arith, h))

others_at_one : (r : ℕ) → r < 2 → IsLeftOut r first_alone → IsIdleFrom 1 (get_or two_lines r no_line)
others_at_one zero h out = absurd (out 0 (omega arith) refl)
others_at_one (suc zero) h out = nothing_emitted 1
others_at_one (suc (suc r)) h out = absurd (omega (arith, h))

others_at_two : (r : ℕ) → r < 2 → IsLeftOut r [] → IsIdleFrom 2 (get_or two_lines r no_line)
others_at_two zero h out = idle_behind
others_at_two (suc zero) h out = nothing_emitted 2
others_at_two (suc (suc r)) h out = absurd (omega (arith, h))

loud_first : (i : ℕ) → i < 1 → ¬ IsIdleFrom 1 (get_or two_lines (get_or first_alone i 0) no_line)
loud_first zero h = loud_at_one
loud_first (suc i) h = absurd (omega (arith, h))

-- from half bit 1 on the first tap alone is loud
pub first_is_loud : AreLoudTaps 1 two_lines first_alone
first_is_loud = record {
  idle = record {
    within = first_within;
    rising = λ i j less h. absurd (omega (arith, less, h));
    others = others_at_one;
  };
  loud = loud_first;
}

-- from half bit 2 on none is
pub none_is_loud : AreLoudTaps 2 two_lines []
none_is_loud = record {
  idle = record {
    within = λ i h. absurd (omega (arith, h));
    rising = λ i j less h. absurd (omega (arith, h));
    others = others_at_two;
  };
  loud = λ i h. absurd (omega (arith, h));
}
