-- Half bits one after another, and those in which nothing happens to a sender but that time goes on and it waits: by
-- these a run leaps over many half bits (profile; what happens in one half bit is that of IEEE 802.3, 4.2.3 and 4.2.8).
use Rattle.std.specs.Prelude.{ℕ, ◌≡◌, ◌+◌, ◌-◌, ◌≤◌, Bool, true, false, ◌==◌, ◌&&◌, ◌||◌, not, nat_lt, nat_le, min, if◌then◌else◌, Option, Some, None, List, [], ◌∷◌, length}
use Rattle.std.specs.List.{All}
use Rattle.mac_parameters.specs.Parameters.{interframe_gap, interframe_gap_part_1}
use Rattle.manchester_line.specs.declared.Sym.{Sym}
use Rattle.mac_transmit.specs.declared.deference.Defer.{Defer}
use Rattle.mac_transmit.specs.declared.deference.Defer.TheVariants.{Watch, Busy, Gap}
use Rattle.mac_transmit.specs.declared.phase.Phase.{Phase}
use Rattle.mac_transmit.specs.declared.phase.Phase.TheVariants.{Rest, Waiting, Sending, Backoff}
use Rattle.mac_transmit.specs.Deference.{watched}
use Rattle.mac_transmit.specs.Sender.{Sender, sender_step, frame_at, ready_at, sending_length, is_sending}
use Rattle.manchester_line.specs.Line.{is_signal}

-- the sender after half bits in which it hears these symbols, in order
abbrev pub after_all : Sender → List Sym → Sender
after_all s [] = s
after_all s (h ∷ hs) = after_all (sender_step s h).state hs

-- the station hears something in each half bit, or Idle in each, as carrier says
abbrev pub AllHeardAs : Bool → List Sym → Type 0
AllHeardAs carrier hs = All (λ h. is_signal h ≡ carrier) hs

-- a half bit gives no event, and leaves the phase as it is, of which a sending's hit is a part
pub record IsCalmIn (s : Sender) (h : Sym) : Type 0 where
  pub no_event : (sender_step s h).event ≡ None
  pub same_phase : (sender_step s h).state.phase ≡ s.phase

-- each of the half bits in which the station hears these symbols, in order, does so
abbrev pub AreCalm : Sender → List Sym → Type 0
AreCalm s [] = Unit {0}
AreCalm s (h ∷ hs) = IsCalmIn s h × AreCalm (sender_step s h).state hs

-- The half bits until a station that waits is free (4.2.3.2.1), where it hears something in each, or Idle in each; none
-- where it is never free.
abbrev pub gap_left : Bool → Defer → Option ℕ
gap_left true Watch = None
gap_left false Watch = Some 0
gap_left true (Busy was) = None
gap_left false (Busy was) = Some interframe_gap
gap_left c (Gap k was) =
    if nat_lt k interframe_gap_part_1 && (not was && c) then None else Some (interframe_gap - k)

-- whether a sending, with its hit so far, gets a hit in a half bit with carrier or without (4.2.3.2.4)
abbrev pub gets_hit : Option ℕ → Bool → Bool
gets_hit None c = c
gets_hit (Some hit) c = false

-- The half bits until one that gives an event, another phase or a new hit, for a sender in this phase that hears
-- something in each, or Idle in each; none where that never comes.
abbrev pub change_from : Sender → Bool → Phase → Option ℕ
change_from s c Rest =
    if nat_lt s.place (length s.queue) then Some (ready_at s.queue s.place - s.t) else None
change_from s c Waiting = gap_left c s.defer
change_from s c (Sending start hit) =
    if gets_hit hit c then Some 0 else Some (start + sending_length (frame_at s.queue s.place) hit - s.t)
change_from s c (Backoff until) = Some (until - s.t)

-- the same, by the sender's own phase
unfoldable pub change_in : Sender → Bool → Option ℕ
change_in s c = change_from s c s.phase

-- n half bits are over before a change that comes after m half bits, or that never comes
abbrev pub AreOverBefore : ℕ → Option ℕ → Type 0
AreOverBefore n None = Unit {0}
AreOverBefore n (Some m) = n ≤ m

-- a number of half bits, or 4,096 where it is greater or there is none (profile)
abbrev pub up_to_most : Option ℕ → ℕ
up_to_most None = 4096
up_to_most (Some n) = min n 4096

-- the greatest number up to 4,096 of half bits in which nothing happens
abbrev pub calm_of : Sender → Bool → ℕ
calm_of s c = up_to_most (change_in s c)

-- deference where k half bits have gone since the gap began: that many of the gap, or what comes after its end
abbrev pub gap_at : Bool → ℕ → Bool → Defer
gap_at c k was = if nat_le k interframe_gap then Gap k was else watched c

-- deference after n half bits, at least one, in which the station doesn't send
abbrev pub waited : Bool → Defer → ℕ → Defer
waited c Watch n = watched c
waited true (Busy was) n = Busy was
waited false (Busy was) n = gap_at false n was
waited c (Gap k was) n =
    if nat_lt k interframe_gap_part_1 && (not was && c) then Busy false else gap_at c (k + n) was

-- the state after n half bits in which nothing happens
unfoldable pub leapt : Sender → Bool → ℕ → Sender
leapt s c n = record s {
  t = s.t + n;
  defer = if is_sending s.phase || n == 0 then s.defer else waited c s.defer n;
  carrier_from = if c || n == 0 then s.carrier_from else s.t + n;
}
