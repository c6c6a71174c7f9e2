-- What happens at a station's receiver in half bits one after another, and what of it counts.
use Rattle.std.specs.Prelude.{ℕ, suc, ◌+◌, ◌*◌, Bool, List, [], ◌∷◌}
use Rattle.mac_parameters.specs.Parameters.{half_bits_a_bit, half_bits_an_octet, least_frame}
use Rattle.manchester_line.specs.declared.Sym.{Sym}
use Rattle.collision_log.specs.declared.row.Body.{Body}
use Rattle.collision_log.specs.declared.row.Body.TheVariants.{Received}
use Rattle.mac_receive.specs.Receiver.{Receiving, receiver_step, with_event}

-- A half bit of a receiver: the symbol that is heard, and whether its own station is sending (profile).
pub record HeardHalf : Type 0 where
  pub heard : Sym
  pub sending : Bool

-- The half bit in which this is heard, while the station sends or doesn't (profile).
abbrev pub heard_half : Bool → Sym → HeardHalf
heard_half sending heard = record { heard = heard; sending = sending }

-- What happens at a receiver in these half bits, in order (4.2.4, profile).
abbrev pub reception_bodies : Receiving → List HeardHalf → List Body
reception_bodies r [] = []
reception_bodies r (h ∷ hs) =
    with_event (receiver_step r h.heard h.sending).event
    (reception_bodies (receiver_step r h.heard h.sending).state hs)

-- The half bits of the shortest reception of a frame: the two bits that end the start frame delimiter (3.2.2) and the
-- least frame (4.4.2).
abbrev pub least_reception : ℕ
least_reception = half_bits_an_octet * least_frame + 2 * half_bits_a_bit

-- How many frames are received (4.2.4).
abbrev pub count_received : List Body → ℕ
count_received [] = 0
count_received (Received octets ∷ bodies) = suc (count_received bodies)
count_received (_ ∷ bodies) = count_received bodies

-- How many octets a frame has that is received, with its check sequence; 0 for a row of anything else (4.2.4).
abbrev pub frame_octets : Body → ℕ
frame_octets (Received octets) = octets
frame_octets _ = 0

-- The octets of all the frames that are received, with their check sequences (4.2.4).
abbrev pub octets_received : List Body → ℕ
octets_received [] = 0
octets_received (body ∷ bodies) = frame_octets body + octets_received bodies
