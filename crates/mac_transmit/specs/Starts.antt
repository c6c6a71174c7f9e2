-- The laws of a station's starts (IEEE 802.3, 4.2.3.2.1: deference and the interframe gap), over half bits one after
-- another: each state that a sender can have is followed for as long as its time goes.
use Rattle.std.specs.Prelude.{◌≡◌, ◌+◌, ◌<◌, ◌≤◌, true, None, List, length}
use Rattle.mac_parameters.specs.Parameters.{interframe_gap, most_half_bits}
use Rattle.manchester_line.specs.declared.Sym.{Sym}
use Rattle.mac_transmit.specs.Laws.{StartsAt}
use Rattle.mac_transmit.specs.Sender.{Sender, IsSender, sender_step}
use Rattle.manchester_line.specs.Line.{is_signal}
use Rattle.mac_transmit.specs.Calm.{after_all, AllHeardAs}

-- a sending starts in the half bit in which the station hears h
abbrev pub IsStart : Sender → Sym → Type 0
IsStart s h = StartsAt s.t (sender_step s h).state.phase

-- a sending ends in the half bit in which the station hears h
abbrev pub IsSendingEnd : Sender → Sym → Type 0
IsSendingEnd s h = (sender_step s h).event ≡ None → ⊥

-- Gap: where a sending ends in a half bit, and the station then hears hs, a start comes at least 192 half bits after
-- that end.
abbrev pub GapsAreKept : Type 0
GapsAreKept =
    (s : Sender) → IsSender s → (h : Sym) → IsSendingEnd s h → (hs : List Sym) (g : Sym) → s.t + length hs < 1999999999
    → IsStart (after_all (sender_step s h).state hs) g
    → s.t + interframe_gap ≤ (after_all (sender_step s h).state hs).t

-- Deaf gap: a station that hears something in each half bit of hs and in the next one, in which it starts, starts less
-- than 192 half bits after the first.
abbrev pub DeafGapsAreKept : Type 0
DeafGapsAreKept =
    (s : Sender) → IsSender s → (hs : List Sym) (g : Sym) → s.t + length hs < most_half_bits
    → AllHeardAs true hs → is_signal g ≡ true → IsStart (after_all s hs) g → length hs < interframe_gap
