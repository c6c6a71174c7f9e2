-- What a receiver makes of a text that it hears whole, half bit by half bit and without sending, from the first half
-- bit of a reception to the Idle after its last. This is the receiver of 4.2.4 alone, on lists of symbols, one a half
-- bit. To tell it once for all who hear the same text is this project's own choice (profile).
use Rattle.std.specs.Prelude.{◌≡◌, ◌≢◌, ℕ, ◌<◌, false, nat_lt, if◌then◌else◌, All, Contains, Option, Some, List, [], length}
use Rattle.manchester_line.specs.declared.Sym.{Sym}
use Rattle.manchester_line.specs.declared.Sym.TheVariants.{Idle, Clash}
use Rattle.manchester_line.specs.Line.{line}
use Rattle.mac_parameters.specs.Parameters.{IsMost, shortest_line_text}
use Rattle.frame_layout.specs.Frame.{verdict_of}
use Rattle.frame_layout.specs.declared.verdict.Verdict.TheVariants.{Good}
use Rattle.collision_log.specs.declared.row.Body.{Body}
use Rattle.collision_log.specs.declared.row.Body.TheVariants.{Received, Dropped}
use Rattle.collision_log.specs.declared.row.Why.TheVariants as why
use Rattle.mac_receive.specs.Receiver.{Receiving, Reception, new_receiving, receiver_step, receiver_after, receiver_bodies, left_halves}
use Rattle.window_room.specs.Receptions.{least_reception}

-- A text without a half bit of Idle: there is carrier all the time (4.2.4).
abbrev pub IsAllSignal : List Sym → Type 0
IsAllSignal text = All (λ s. s ≢ Idle) text

-- A receiver awaits a reception: it isn't deaf, and no reception is under way (4.2.4, profile).
pub record AwaitsReception (r : Receiving) : Type 0 where
  pub hearing : r.deaf ≡ false
  pub none : r.halves ≡ []

-- What a half bit of Idle makes of a receiver that has heard this text, all without sending (4.2.4).
abbrev pub idle_after : Receiving → List Sym → Reception
idle_after r text = receiver_step (receiver_after r text false) Idle false

-- What becomes of a reception: the row that is written of it, and the octets of a frame that is received, with its
-- check sequence; none of anything else (4.2.4).
pub record TextVerdict : Type 0 where
  pub event : Option Body
  pub octets : List ℕ

-- The verdict of a text, for receivers that lose so many bits of each reception, and frames of so many octets at most
-- before the check sequence: what a new receiver that hears this text makes of it at the Idle after it. Of an empty
-- text no row is written (4.2.4, profile).
abbrev pub verdict_of_text : ℕ → ℕ → List Sym → TextVerdict
verdict_of_text lose most text =
    record {
      event = (idle_after (new_receiving lose most) text).event;
      octets = (idle_after (new_receiving lose most) text).octets;
    }

-- The verdict of which only a row is left (4.2.4).
abbrev pub row_alone : Body → TextVerdict
row_alone body = record { event = Some body; octets = [] }

-- The octets of a verdict with this row, where these octets were read: those of a frame that is received, and none of
-- anything else (4.2.4).
abbrev pub octets_with : Option Body → List ℕ → List ℕ
octets_with (Some (Received n)) octets = octets
octets_with _ _ = []

-- A receiver writes nothing while it hears this text, has this verdict at the Idle after it, and is then as it was
-- before (4.2.4).
pub record HasVerdict (r : Receiving) (text : List Sym) (verdict : TextVerdict) : Type 0 where
  pub before : receiver_bodies r text false ≡ []
  pub event : (idle_after r text).event ≡ verdict.event
  pub octets : (idle_after r text).octets ≡ verdict.octets
  pub after : (idle_after r text).state ≡ r

-- While a receiver that awaited a reception hears a text, the text is its reception under way (4.2.4).
abbrev pub TextIsUnderWay : Type 0
TextIsUnderWay =
    (r : Receiving) (text : List Sym) → AwaitsReception r → IsAllSignal text
    → receiver_after r text false ≡ record r { halves = text }

-- A receiver that awaited a reception has the verdict of the text that it hears, whatever came before (4.2.4).
abbrev pub WholeTextIsTold : Type 0
WholeTextIsTold =
    (r : Receiving) (text : List Sym) → AwaitsReception r → IsAllSignal text
    → HasVerdict r text (verdict_of_text r.lose r.most text)

-- A reception of fewer half bits than the shortest one of a frame is a fragment, whatever is heard in it, whatever is
-- lost of it and whatever frames are allowed (3.2.2, 4.2.4, 4.4.2).
abbrev pub ShortTextIsFragment : Type 0
ShortTextIsFragment =
    (r : Receiving) (text : List Sym) → AwaitsReception r → IsAllSignal text
    → 0 < length text → length text < least_reception
    → HasVerdict r text (row_alone (Dropped why.Fragment (length text)))

-- The row of a spoiled reception of so many half bits: below the shortest line text it is a fragment (profile).
abbrev pub spoiled_row : ℕ → Body
spoiled_row n = if nat_lt n shortest_line_text then Dropped why.Fragment n else Dropped why.Damaged n

-- A Clash spoils a reception, unless it is among the half bits that are lost (4.2.4, profile).
abbrev pub ClashSpoilsText : Type 0
ClashSpoilsText =
    (r : Receiving) (text : List Sym) → AwaitsReception r → IsAllSignal text
    → Contains (left_halves r.lose text) Clash → HasVerdict r text (row_alone (spoiled_row (length text)))

-- The verdict of a frame that is received: its row, by its octets with the check sequence, and these octets (4.2.4).
abbrev pub frame_received : List ℕ → TextVerdict
frame_received frame = record { event = Some (Received (length frame)); octets = frame }

-- A receiver that loses no bits receives each good frame whose line text it hears whole, from the first half bit of the
-- preamble on (3.1.1, 4.2.4).
abbrev pub GoodFrameIsReceived : Type 0
GoodFrameIsReceived =
    (r : Receiving) (frame : List ℕ) → AwaitsReception r → r.lose ≡ 0 → IsMost r.most
    → All (λ x. x < 256) frame → verdict_of frame 0 r.most ≡ Good
    → HasVerdict r (line frame) (frame_received frame)

-- After a half bit of Idle without sending a receiver awaits a reception (4.2.4, profile).
abbrev pub IdleEndsReception : Type 0
IdleEndsReception = (r : Receiving) → AwaitsReception (receiver_step r Idle false).state
