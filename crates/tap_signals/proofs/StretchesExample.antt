-- An example of stretches: a frame that was cut short by a jam, and another frame. Those that are looked at begin and
-- end in the midst of the frames.
use Rattle.std.proofs.Common.{◌≡◌, ◌≢◌, ℕ, zero, suc, ◌<◌, ◌≤◌, List, [], ◌∷◌, Option, None, Some, get_or, inl, inr, refl, sym, ap, arith}
use Rattle.std.proofs.lemmas.Option.{none-some}
use Rattle.tap_signals.specs.declared.kind.SignalKind.{SignalKind}
use Rattle.tap_signals.specs.declared.kind.SignalKind.TheVariants.{Frame, Jam}
use Rattle.tap_signals.specs.declared.stretch.Stretch.{Stretch}
use Rattle.tap_signals.specs.Stretches.{IsInOne, AreStretches}

-- a frame in half bits 1 and 2, a jam in half bit 3, and a frame in half bits 5 and 6
abbrev pub two_frames : ℕ → Option SignalKind
two_frames t = get_or (None ∷ Some Frame ∷ Some Frame ∷ Some Jam ∷ None ∷ Some Frame ∷ Some Frame ∷ []) t None

abbrev stretch : ℕ → ℕ → SignalKind → Stretch
stretch start end kind = record { start = start; end = end; kind = kind }

abbrev pub seen : List Stretch
seen = stretch 2 3 Frame ∷ stretch 3 4 Jam ∷ stretch 5 6 Frame ∷ []

in_seen : (t : ℕ) → 2 ≤ t → t < 6 → two_frames t ≢ None → IsInOne t seen
in_seen zero l m some = absurd (omega (arith, l))
in_seen (suc zero) l m some = absurd (omega (arith, l))
in_seen (suc (suc zero)) l m some = inl (omega arith, omega arith)
in_seen (suc (suc (suc zero))) l m some = inr (inl (omega arith, omega arith))
in_seen (suc (suc (suc (suc zero)))) l m some = absurd (some refl)
in_seen (suc (suc (suc (suc (suc zero))))) l m some = inr (inr (inl (omega arith, omega arith)))
in_seen (suc (suc (suc (suc (suc (suc t)))))) l m some = absurd (omega (arith, m))

-- from half bit 2 on and before half bit 6
pub seen_are_stretches : AreStretches two_frames 2 6 seen
seen_are_stretches = record {
  each = (
    record { begins = omega arith; some = omega arith; ends = omega arith; alike = λ t w. let at : t ≡ 2 = omega (arith, w.0, w.1) in ap two_frames at },
    (
      record { begins = omega arith; some = omega arith; ends = omega arith; alike = λ t w. let at : t ≡ 3 = omega (arith, w.0, w.1) in ap two_frames at },
      (record { begins = omega arith; some = omega arith; ends = omega arith; alike = λ t w. let at : t ≡ 5 = omega (arith, w.0, w.1) in ap two_frames at }, tt),
    ),
  );
  every = in_seen;
  in_turn = ((omega arith, λ touch same. (cc)), ((omega arith, λ touch. absurd (omega (arith, touch))), (tt, tt)));
}

-- two of one kind that touch are one
pub not_in_two : ¬ AreStretches two_frames 1 3 (stretch 1 2 Frame ∷ stretch 2 3 Frame ∷ [])
not_in_two h = h.in_turn.0.1 refl refl

-- a gap is in none
pub not_over_a_gap : ¬ AreStretches two_frames 2 6 (stretch 2 6 Frame ∷ [])
not_over_a_gap h = none-some Frame (h.each.0.alike 4 (omega arith, omega arith))

-- a stretch may not be left out
pub not_left_out : ¬ AreStretches two_frames 1 3 []
not_left_out h = h.every 1 (omega arith) (omega arith) (λ none. none-some Frame (sym none))
