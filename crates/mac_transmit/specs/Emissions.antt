-- What a sender emits over half bits in which nothing happens to it (IEEE 802.3, 4.2.8: the line text, or the jam after
-- a collision; that it is known for many half bits at once is profile).
use Rattle.std.specs.Prelude.{ℕ, ◌≡◌, ◌+◌, ◌-◌, ◌<◌, ◌≤◌, Bool, true, List, length}
use Rattle.manchester_line.specs.declared.Sym.{Sym}
use Rattle.manchester_line.specs.declared.Sym.TheVariants.{Idle}
use Rattle.manchester_line.specs.Line.{is_signal}
use Rattle.mac_transmit.specs.declared.phase.Phase.{Phase}
use Rattle.mac_transmit.specs.declared.phase.Phase.TheVariants.{Sending}
use Rattle.mac_transmit.specs.Sender.{Sender, sender_step, frame_at, sending_length, symbol_of, is_sending}
use Rattle.mac_transmit.specs.Calm.{after_all, AllHeardAs, calm_of}

-- What a sender in this phase emits j half bits from now, j from 0, if nothing happens to it until then: where a
-- sending is under way, the symbol at its place in the line text or in the jam (4.2.3.2.4), and else Idle.
abbrev pub emission_by : Sender → ℕ → Phase → Sym
emission_by s j (Sending start hit) = symbol_of (frame_at s.queue s.place) hit (s.t + j - start)
emission_by s j _ = Idle

-- In this phase a sending is under way, and at least n half bits from now on are left of it.
abbrev pub IsSendingFor : Sender → ℕ → Phase → Type 0
IsSendingFor s n (Sending start hit) = n ≤ start + sending_length (frame_at s.queue s.place) hit - s.t
IsSendingFor s n _ = ⊥

-- A calm sender: where it hears something in each half bit of hs and in the next one, or Idle in each, and so many half
-- bits are calm, it emits in that next one what it would if nothing happened to it.
abbrev pub CalmSendersEmit : Type 0
CalmSendersEmit =
    (s : Sender) (carrier : Bool) (hs : List Sym) (h : Sym) → AllHeardAs carrier hs → is_signal h ≡ carrier
    → length hs < calm_of s carrier → (sender_step (after_all s hs) h).emitted ≡ emission_by s (length hs) s.phase

-- A sending that is under way lasts for the half bits that are calm, whether the station hears something in each of
-- them or Idle in each.
abbrev pub CalmSendingsLast : Type 0
CalmSendingsLast =
    (s : Sender) (carrier : Bool) (n : ℕ) → is_sending s.phase ≡ true → n ≤ calm_of s carrier → IsSendingFor s n s.phase
