-- What a station's receiver makes of each half bit: frame reception (4.2.4), over the line's half bits (clause 7). Lost
-- bits, deafness and the rows are this project's own choice (profile).
use Rattle.std.specs.Prelude.{ℕ, ◌*◌, Bool, true, false, nat_lt, if◌then◌else◌, Option, Some, None, List, [], ◌∷◌, ◌++◌, length, drop}
use Rattle.manchester_line.specs.declared.Sym.{Sym}
use Rattle.manchester_line.specs.declared.Sym.TheVariants.{Idle}
use Rattle.manchester_line.specs.Reading.{reading, octets_of_bits, spare_of_bits}
use Rattle.mac_parameters.specs.Parameters.{half_bits_a_bit, shortest_line_text}
use Rattle.frame_layout.specs.declared.verdict.Verdict.{Verdict}
use Rattle.frame_layout.specs.declared.verdict.Verdict.TheVariants.{Good, Fragment, TooLong, FcsError, AlignError}
use Rattle.frame_layout.specs.Frame.{verdict_of}
use Rattle.collision_log.specs.declared.row.Body.{Body}
use Rattle.collision_log.specs.declared.row.Body.TheVariants.{Received, Dropped}
use Rattle.collision_log.specs.declared.row.Why.TheVariants as why

-- a receiver between two half bits
pub record Receiving : Type 0 where
  -- how many bits are lost at the beginning of each reception (profile)
  pub lose : ℕ
  -- the most octets of a frame before its check sequence (3.2.7)
  pub most : ℕ
  -- whether the receiver is deaf: its own station has sent, and it has heard carrier ever since (profile)
  pub deaf : Bool
  -- the half bits of the reception under way, the first one first; none where no reception is under way
  pub halves : List Sym

-- what a half bit makes: the receiver after it, the row that is written of it, if one is, and the octets of a frame
-- that is received, with its check sequence
pub record Reception : Type 0 where
  pub state : Receiving
  pub event : Option Body
  pub octets : List ℕ

-- a new receiver, that loses so many bits of each reception, for frames of so many octets at most before the check
-- sequence (3.2.7)
abbrev pub new_receiving : ℕ → ℕ → Receiving
new_receiving lose most = record { lose = lose; most = most; deaf = false; halves = [] }

-- what is left of a reception's half bits when its first `lose` bits are lost (profile)
abbrev pub left_halves : ℕ → List Sym → List Sym
left_halves lose halves = drop (half_bits_a_bit * lose) halves

-- the row of a frame that was judged, by its number of octets with the check sequence, and the number of the half bits
-- of the whole reception (4.2.4)
abbrev pub judged_row : Verdict → ℕ → ℕ → Body
judged_row Good octets halves = Received octets
judged_row Fragment octets halves = Dropped why.Fragment halves
judged_row TooLong octets halves = Dropped why.TooLong halves
judged_row FcsError octets halves = Dropped why.FcsError halves
judged_row AlignError octets halves = Dropped why.AlignError halves

-- the row of a reception by its reading, the most octets of a frame before its check sequence and the number of the
-- half bits of the whole reception. A spoiled one that is shorter than the shortest line text is a fragment (profile)
abbrev pub reading_row : Option (List Bool) → ℕ → ℕ → Body
reading_row None most halves =
    if nat_lt halves shortest_line_text then Dropped why.Fragment halves else Dropped why.Damaged halves
reading_row (Some bits) most halves =
    judged_row
    (verdict_of (octets_of_bits bits) (spare_of_bits bits) most)
    (length (octets_of_bits bits)) halves

-- the octets of a frame that was judged, with its check sequence, if it is good (4.2.4)
abbrev pub judged_octets : Verdict → List ℕ → List ℕ
judged_octets Good octets = octets
judged_octets _ octets = []

-- the octets of a reception by its reading, with the check sequence, if it is a good frame (4.2.4)
abbrev pub reading_octets : Option (List Bool) → ℕ → List ℕ
reading_octets None most = []
reading_octets (Some bits) most =
    judged_octets (verdict_of (octets_of_bits bits) (spare_of_bits bits) most) (octets_of_bits bits)

-- a half bit of which no row is written (profile)
abbrev pub quiet : Receiving → Reception
quiet r = record { state = r; event = None; octets = [] }

-- a half bit without carrier: the end of a reception, where one is under way (4.2.4)
abbrev pub reception_ended : Receiving → List Sym → Reception
reception_ended r [] = quiet r
reception_ended r (s ∷ ss) =
    record {
      state = record r { halves = [] };
      event = Some (reading_row (reading (left_halves r.lose (s ∷ ss))) r.most (length (s ∷ ss)));
      octets = reading_octets (reading (left_halves r.lose (s ∷ ss))) r.most;
    }

-- one more half bit of a reception, or the first one (4.2.4)
abbrev pub extended : Receiving → Sym → Reception
extended r s = quiet (record r { halves = r.halves ++ s ∷ [] })

-- one half bit: the symbol that is heard, and whether the receiver's own station is sending (4.2.4, profile)
abbrev pub receiver_step : Receiving → Sym → Bool → Reception
receiver_step r heard true = quiet (record r { deaf = true; halves = [] })
receiver_step r Idle false =
    if r.deaf then quiet (record r { deaf = false; halves = [] }) else reception_ended r r.halves
receiver_step r heard false = if r.deaf then quiet r else extended r heard

-- the receiver after half bits in which these symbols are heard, the first one first, while its station sends all the
-- time or not at all
abbrev pub receiver_after : Receiving → List Sym → Bool → Receiving
receiver_after r [] sending = r
receiver_after r (s ∷ ss) sending = receiver_after (receiver_step r s sending).state ss sending

-- the rows of a half bit and of those after it
abbrev pub with_event : Option Body → List Body → List Body
with_event None bodies = bodies
with_event (Some body) bodies = body ∷ bodies

-- the rows of half bits in which these symbols are heard, while the receiver's station sends all the time or not at all
abbrev pub receiver_bodies : Receiving → List Sym → Bool → List Body
receiver_bodies r [] sending = []
receiver_bodies r (s ∷ ss) sending =
    with_event (receiver_step r s sending).event (receiver_bodies (receiver_step r s sending).state ss sending)
