-- The attempts of a station, over half bits one after another, and what each of them keeps (IEEE 802.3, 4.2.3
-- and 4.2.8). Half bits and positions count from 0.
use Rattle.std.specs.Prelude.{ℕ, zero, suc, ◌≡◌, ◌≢◌, ◌+◌, ◌-◌, ◌<◌, ◌≤◌, true, All, Option, Some, None, List, length}
use Rattle.mac_parameters.specs.Parameters.{interframe_gap, least_frame, shortest_line_text, shortest_sending}
use Rattle.manchester_line.specs.declared.Sym.{Sym}
use Rattle.manchester_line.specs.declared.Sym.TheVariants.{Idle}
use Rattle.frame_layout.specs.declared.queue.Ready.{Ready}
use Rattle.backoff_draw.specs.Draws.{Drawing}
use Rattle.mac_transmit.specs.declared.phase.Phase.TheVariants.{Sending}
use Rattle.mac_transmit.specs.Sender.{Sender, new_sender, sender_step, has_ended}

-- A sending: it begins in half bit start, the station finishes it in half bit end, and hit is the position at which the
-- station first heard something, if it did.
pub record Attempt : Type 0 where
  pub start : ℕ
  pub end : ℕ
  pub hit : Option ℕ

-- The station is sending in half bit t.
abbrev pub IsSending : Attempt → ℕ → Type 0
IsSending a t = (a.start ≤ t) × (t < a.end)

-- The sender before half bit t that before half bit 0 is s, and hears heard u in each half bit u.
abbrev pub run : Sender → (ℕ → Sym) → ℕ → Sender
run s heard zero = s
run s heard (suc t) = (sender_step (run s heard t) (heard t)).state

-- What it emits in half bit t.
abbrev pub emits : Sender → (ℕ → Sym) → ℕ → Sym
emits s heard t = (sender_step (run s heard t) (heard t)).emitted

-- A sender that finishes an attempt in the next half bit, which is the attempt's end.
pub record Finishes (s : Sender) (a : Attempt) : Type 0 where
  pub sending : s.phase ≡ Sending a.start a.hit
  pub over : has_ended s a.start a.hit ≡ true

-- The frames of a queue: each has at least 64 octets (minFrameSize, 4.4.2).
abbrev pub AreFrames : List Ready → Type 0
AreFrames queue = All (λ r. least_frame ≤ length r.frame) queue

-- There is a hit, at position p or before it.
abbrev pub IsHitBy : Option ℕ → ℕ → Type 0
IsHitBy None p = ⊥
IsHitBy (Some hit) p = hit ≤ p

-- There is a hit, before position p.
abbrev pub IsHitBelow : Option ℕ → ℕ → Type 0
IsHitBelow None p = ⊥
IsHitBelow (Some hit) p = hit < p

-- Without a hit an attempt has at least 1,152 half bits, those of the least frame's line text, and with one it goes on
-- past it.
abbrev pub GoesOn : Option ℕ → ℕ → ℕ → Type 0
GoesOn None start end = start + shortest_line_text ≤ end
GoesOn (Some hit) start end = start + hit < end

-- What an attempt keeps, of a station that emits and hears this.
pub record IsLawful (emitted heard : ℕ → Sym) (a : Attempt) : Type 0 where
  -- Length: at least 192 half bits, and 1,152 without a hit.
  pub long : a.start + shortest_sending ≤ a.end
  pub goes_on : GoesOn a.hit a.start a.end
  -- It emits something in each of its half bits.
  pub busy : (t : ℕ) → IsSending a t → emitted t ≢ Idle
  -- It has a hit by each half bit in which the station hears something.
  pub heeds : (p : ℕ) → a.start + p < a.end → heard (a.start + p) ≢ Idle → IsHitBy a.hit p
  -- Deaf gap: where the station hears something from u up to the start, that is at most 191 half bits after u.
  pub deaf :
      (u : ℕ) → u < a.start → ((t : ℕ) → u ≤ t → t ≤ a.start → heard t ≢ Idle) → a.start ≤ u + (interframe_gap - 1)

-- Each attempt of a station with a queue of frames keeps this, whatever it hears and draws.
abbrev pub AttemptsAreLawful : Type 0
AttemptsAreLawful =
    (queue : List Ready) → AreFrames queue → (draws : Drawing) (heard : ℕ → Sym) (a : Attempt)
    → Finishes (run (new_sender queue draws) heard a.end) a → IsLawful (emits (new_sender queue draws) heard) heard a
