-- Stations to which nothing happens for several half bits, and what their lines tell ahead.
use Rattle.std.proofs.Common.{◌≡◌, ℕ, ◌+◌, ◌-◌, ◌≤◌, Bool, false, Option, Some, None, List, [], ◌∷◌, length, replicate, refl, sym, ap, ap₂, ◌∙◌, arith}
use Rattle.manchester_line.specs.declared.Sym.{Sym}
use Rattle.manchester_line.specs.declared.Sym.TheVariants.{Idle}
use Rattle.manchester_line.specs.Line.{is_signal}
use Rattle.mac_transmit.specs.declared.phase.Phase.{Phase}
use Rattle.mac_transmit.specs.declared.phase.Phase.TheVariants.{Rest, Waiting, Sending, Backoff}
use Rattle.mac_transmit.specs.Sender.{Sender, is_sending, frame_at, symbol_of}
use Rattle.mac_transmit.specs.Calm.{AreCalm, AreOverBefore, change_in}
use Rattle.mac_transmit.specs.Emissions.{emission_by}
use Rattle.segment_engine.specs.SteadyPieces.{IsCalmAs, sent_ahead}
use Rattle.segment_engine.proofs.SteadyReceivers.{span_same}

-- a sender that doesn't send emits Idle
pub emits_idle : (s : Sender) (j : ℕ) (p : Phase) → is_sending p ≡ false → emission_by s j p ≡ Idle
emits_idle s j Rest h = refl
emits_idle s j Waiting h = refl
emits_idle s j (Sending start hit) h = absurd (cc)
emits_idle s j (Backoff until) h = refl

none_calm : (s : Sender) (hs : List Sym) → length hs ≤ 0 → AreCalm s hs
none_calm s [] h = tt
none_calm s (x ∷ hs) h = absurd (omega (arith, h))

none_over : (change : Option ℕ) → AreOverBefore 0 change
none_over None = tt
none_over (Some m) = omega arith

-- nothing happens in no half bits
pub no_calm : (c : Bool) (s : Sender) → IsCalmAs 0 c s
no_calm c s = record { number = none_over (change_in s c); calm = λ hs a l. none_calm s hs l }

-- what a sending has ahead
pub emission_is : (s : Sender) (octets : List ℕ) (start : ℕ) (hit : Option ℕ) (t j : ℕ) → octets ≡ frame_at s.queue s.place → s.phase ≡ Sending start hit → t ≡ s.t → start ≤ t →
    emission_by s j s.phase ≡ symbol_of octets hit (t - start + j)
emission_is s octets start hit t j is phase time h =
    let e : s.t + j - start ≡ t - start + j = omega (arith, time, h) in
    ap (emission_by s j) phase ∙ ap₂ (λ x y. symbol_of x hit y) (sym is) e

pub idle_ahead : (s : Sender) (n : ℕ) → is_sending s.phase ≡ false → sent_ahead s n ≡ replicate n Idle
idle_ahead s n h = span_same (λ j. emission_by s j s.phase) 0 n Idle (λ i l. emits_idle s (0 + i) s.phase h)

pub idle_class : (s : Sender) (j : ℕ) → is_sending s.phase ≡ false → is_signal (emission_by s j s.phase) ≡ is_sending s.phase
idle_class s j h = ap is_signal (emits_idle s j s.phase h) ∙ sym h
