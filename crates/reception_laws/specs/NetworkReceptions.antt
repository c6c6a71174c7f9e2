-- The receivers of the stations in the network of a plan, in times of its run (profile). Half bits and stations count
-- from 0. A reception is told by the half bit in which it begins and by the half bit of Idle after its last.
use Rattle.std.specs.Prelude.{ℕ, suc, ◌≡◌, ◌+◌, ◌-◌, ◌*◌, ◌<◌, ◌≤◌, ◌==◌, ◌⊎◌, Bool, true, false, None, All, List, [], map, length, slice_index_or}
use Rattle.mac_parameters.specs.Parameters.{half_bits_a_bit, most_octets}
use Rattle.manchester_line.specs.declared.Sym.{Sym}
use Rattle.manchester_line.specs.declared.Sym.TheVariants.{Clash}
use Rattle.manchester_line.specs.Line.{is_signal, line}
use Rattle.frame_layout.specs.Frame.{verdict_of}
use Rattle.frame_layout.specs.declared.verdict.Verdict.TheVariants.{Good}
use Rattle.collision_log.specs.declared.row.Body.TheVariants.{Dropped}
use Rattle.collision_log.specs.declared.row.Why.TheVariants as why
use Rattle.load_plan.specs.declared.plan.Plan.{Plan}
use Rattle.mac_receive.specs.Receiver.{Receiving, Reception, receiver_step, receiver_after}
use Rattle.network.specs.Times.{heard, emitted}
use Rattle.net_parts.specs.Machines.{span}
use Rattle.net_parts.specs.Standing.{receiver_at}
use Rattle.window_room.specs.Receptions.{least_reception}
use Rattle.reception_laws.specs.WholeReceptions.{IsAllSignal, AwaitsReception, TextVerdict, verdict_of_text, row_alone, frame_received, spoiled_row}

-- Station k hears a signal in half bit t.
abbrev pub HearsCarrier : Plan → ℕ → ℕ → Type 0
HearsCarrier plan k t = is_signal (heard plan k t) ≡ true

-- Station k hears Idle in half bit t.
abbrev pub HearsIdle : Plan → ℕ → ℕ → Type 0
HearsIdle plan k t = is_signal (heard plan k t) ≡ false

-- Station k emits a signal in half bit t.
abbrev pub EmitsSignal : Plan → ℕ → ℕ → Type 0
EmitsSignal plan k t = is_signal (emitted plan k t) ≡ true

-- Station k emits Idle in half bit t.
abbrev pub EmitsIdle : Plan → ℕ → ℕ → Type 0
EmitsIdle plan k t = is_signal (emitted plan k t) ≡ false

-- What the receiver of station k makes of half bit t (4.2.9).
abbrev pub reception_at : Plan → ℕ → ℕ → Reception
reception_at plan k t = receiver_step (receiver_at plan k t) (heard plan k t) (is_signal (emitted plan k t))

-- What station k hears from half bit `from` on and below half bit `to`, one symbol a half bit.
abbrev pub text_heard : Plan → ℕ → ℕ → ℕ → List Sym
text_heard plan k from to = span (heard plan k) from (to - from)

-- From half bit `from` on and below half bit `to` the receiver of station k writes no row.
abbrev pub WritesNoRow : Plan → ℕ → ℕ → ℕ → Type 0
WritesNoRow plan k from to = (u : ℕ) → from ≤ u → u < to → (reception_at plan k u).event ≡ None

-- How many bits station k loses of each reception (profile).
abbrev pub lost_bits : Plan → ℕ → ℕ
lost_bits plan k = slice_index_or (map (λ s. s.lose) plan.layout.stations) k 0

-- The most octets of a frame before its check sequence, for all stations alike (3.2.7).
abbrev pub octets_allowed : Plan → ℕ
octets_allowed plan = most_octets (plan.layout.format == 2)

-- A receiver is deaf: it hears nothing until the next half bit of Idle in which its station doesn't send (profile).
pub record IsDeaf (r : Receiving) : Type 0 where
  pub deaf : r.deaf ≡ true
  pub none : r.halves ≡ []

-- From half bit `begun` on and below half bit t station k hears a signal in each half bit, and emits none; before
-- `begun` its receiver awaits a reception. Where `begun` is t it has heard nothing so far.
pub record HearsSince (plan : Plan) (k begun t : ℕ) : Type 0 where
  pub station : k < length plan.layout.stations
  pub begins : begun ≤ t
  pub awaits : AwaitsReception (receiver_at plan k begun)
  pub carrier : (u : ℕ) → begun ≤ u → u < t → HearsCarrier plan k u
  pub silent : (u : ℕ) → begun ≤ u → u < t → EmitsIdle plan k u

-- The half bits from `begun` on and below half bit t are a whole reception of station k, or none where `begun` is t: in
-- half bit t it hears Idle, and emits no signal.
pub record IsReception (plan : Plan) (k begun t : ℕ) : Type 0 where
  pub hears : HearsSince plan k begun t
  pub over : HearsIdle plan k t
  pub unsent : EmitsIdle plan k t

-- Before half bit t the reception of station k that began in half bit `begun` is what the station heard since then: it
-- has t - begun half bits, and no row was written of it so far.
pub record IsUnderWay (plan : Plan) (k begun t : ℕ) : Type 0 where
  pub signal : IsAllSignal (text_heard plan k begun t)
  pub many : length (text_heard plan k begun t) ≡ t - begun
  pub state : receiver_at plan k t ≡ record (receiver_at plan k begun) { halves = text_heard plan k begun t }
  pub unwritten : WritesNoRow plan k begun t

-- In half bit t station k has this verdict, and after it its receiver is as it was before half bit `begun`.
pub record EndsAs (plan : Plan) (k begun t : ℕ) (verdict : TextVerdict) : Type 0 where
  pub event : (reception_at plan k t).event ≡ verdict.event
  pub octets : (reception_at plan k t).octets ≡ verdict.octets
  pub after : receiver_at plan k (suc t) ≡ receiver_at plan k begun

-- What station j makes of half bit t has the same row and the same octets as what station k makes of half bit u.
pub record HaveOneVerdict (plan : Plan) (j t k u : ℕ) : Type 0 where
  pub event : (reception_at plan j t).event ≡ (reception_at plan k u).event
  pub octets : (reception_at plan j t).octets ≡ (reception_at plan k u).octets

-- Where a station sends in each half bit from `from` on and below `to`, or in none, its receiver follows from what it
-- hears in them.
abbrev pub ReceiversFollow : Type 0
ReceiversFollow =
    (plan : Plan) (k from to : ℕ) (sending : Bool) → k < length plan.layout.stations → from ≤ to
    → ((u : ℕ) → from ≤ u → u < to → is_signal (emitted plan k u) ≡ sending)
    → receiver_at plan k to ≡ receiver_after (receiver_at plan k from) (text_heard plan k from to) sending

-- A receiver loses as many bits of each reception as its station's line of the layout says, all the time.
abbrev pub LostBitsStay : Type 0
LostBitsStay =
    (plan : Plan) (k t : ℕ) → k < length plan.layout.stations → (receiver_at plan k t).lose ≡ lost_bits plan k

-- The most octets of a frame are the same for all receivers all the time.
abbrev pub AllowedOctetsStay : Type 0
AllowedOctetsStay =
    (plan : Plan) (k t : ℕ) → k < length plan.layout.stations → (receiver_at plan k t).most ≡ octets_allowed plan

-- Before half bit 0 each receiver awaits a reception.
abbrev pub ReceiversAwaitFirst : Type 0
ReceiversAwaitFirst =
    (plan : Plan) (k : ℕ) → k < length plan.layout.stations → AwaitsReception (receiver_at plan k 0)

-- After a half bit in which its station hears and emits Idle a receiver awaits a reception.
abbrev pub ReceiversAwaitNext : Type 0
ReceiversAwaitNext =
    (plan : Plan) (k t : ℕ) → k < length plan.layout.stations → HearsIdle plan k t → EmitsIdle plan k t
    → AwaitsReception (receiver_at plan k (suc t))

-- A receiver that awaits a reception before half bit `from` does so, and is the same, up to half bit `to`, where its
-- station hears and emits Idle in each half bit in between; it writes no row in them.
abbrev pub AwaitingReceiversWriteNothing : Type 0
AwaitingReceiversWriteNothing =
    (plan : Plan) (k from to : ℕ) → k < length plan.layout.stations → from ≤ to
    → AwaitsReception (receiver_at plan k from)
    → ((u : ℕ) → from ≤ u → u < to → HearsIdle plan k u × EmitsIdle plan k u)
    → (receiver_at plan k to ≡ receiver_at plan k from) × WritesNoRow plan k from to

-- After a half bit in which its station emits a signal a receiver is deaf, and of that half bit no row is written.
abbrev pub SendersTurnDeaf : Type 0
SendersTurnDeaf =
    (plan : Plan) (k t : ℕ) → k < length plan.layout.stations → EmitsSignal plan k t
    → IsDeaf (receiver_at plan k (suc t)) × WritesNoRow plan k t (suc t)

-- A receiver that is deaf before half bit `from` stays so up to half bit `to` where its station emits or hears a signal
-- in each half bit in between. It writes no row in them, nor in half bit `to`, whatever comes then.
abbrev pub DeafReceiversWriteNothing : Type 0
DeafReceiversWriteNothing =
    (plan : Plan) (k from to : ℕ) → k < length plan.layout.stations → from ≤ to → IsDeaf (receiver_at plan k from)
    → ((u : ℕ) → from ≤ u → u < to → EmitsSignal plan k u ⊎ HearsCarrier plan k u)
    → IsDeaf (receiver_at plan k to) × WritesNoRow plan k from (suc to)

-- What a station has heard since its receiver awaited a reception is its reception under way.
abbrev pub ReceptionsAreUnderWay : Type 0
ReceptionsAreUnderWay = (plan : Plan) (k begun t : ℕ) → HearsSince plan k begun t → IsUnderWay plan k begun t

-- A reception has the verdict of the text that was heard in it, at the half bit of Idle after it.
abbrev pub ReceptionsEndAsTold : Type 0
ReceptionsEndAsTold =
    (plan : Plan) (k begun t : ℕ) → IsReception plan k begun t
    → EndsAs plan k begun t (verdict_of_text (lost_bits plan k) (octets_allowed plan) (text_heard plan k begun t))

-- One text, one verdict: a reception of station j, from half bit a to t, and one of station k, from b to u, have the
-- same row and octets where the same text was heard in them, if the stations lose as many bits.
abbrev pub OneTextOneVerdict : Type 0
OneTextOneVerdict =
    (plan : Plan) (j a t k b u : ℕ) → IsReception plan j a t → IsReception plan k b u
    → lost_bits plan j ≡ lost_bits plan k → text_heard plan j a t ≡ text_heard plan k b u
    → HaveOneVerdict plan j t k u

-- One line, one verdict: where a station hears `back` half bits later what a line has from its half bit `from` on and
-- below `to`, and that is a whole reception, it has the verdict of that text of the line.
abbrev pub OneLineOneVerdict : Type 0
OneLineOneVerdict =
    (plan : Plan) (line : ℕ → Sym) (k back from to : ℕ) → IsReception plan k (from + back) (to + back)
    → ((u : ℕ) → from ≤ u → u < to → heard plan k (u + back) ≡ line u)
    → EndsAs plan k (from + back) (to + back)
    (verdict_of_text (lost_bits plan k) (octets_allowed plan) (span line from (to - from)))

-- A reception of fewer half bits than the shortest one of a frame is a fragment (4.4.2).
abbrev pub ShortReceptionsAreFragments : Type 0
ShortReceptionsAreFragments =
    (plan : Plan) (k begun t : ℕ) → IsReception plan k begun t → begun < t → t - begun < least_reception
    → EndsAs plan k begun t (row_alone (Dropped why.Fragment (t - begun)))

-- A Clash that a station hears in half bit u spoils its reception, unless it is among the bits that the station loses.
abbrev pub ClashesSpoilReceptions : Type 0
ClashesSpoilReceptions =
    (plan : Plan) (k begun t u : ℕ) → IsReception plan k begun t
    → begun + half_bits_a_bit * lost_bits plan k ≤ u → u < t → heard plan k u ≡ Clash
    → EndsAs plan k begun t (row_alone (spoiled_row (t - begun)))

-- A station that loses no bits receives each good frame whose line text is what it hears of a reception (4.2.9).
abbrev pub GoodFramesAreReceived : Type 0
GoodFramesAreReceived =
    (plan : Plan) (k begun t : ℕ) (frame : List ℕ) → IsReception plan k begun t → lost_bits plan k ≡ 0
    → All (λ x. x < 256) frame → verdict_of frame 0 (octets_allowed plan) ≡ Good
    → text_heard plan k begun t ≡ line frame → EndsAs plan k begun t (frame_received frame)
