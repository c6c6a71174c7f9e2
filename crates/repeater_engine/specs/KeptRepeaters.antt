-- What a repeater's part keeps, and what becomes of its parcels in a window (profile). Half bits, windows, devices,
-- repeaters and edges count from 0.
use Rattle.std.specs.Prelude.{◌≡◌, ℕ, ◌+◌, ◌-◌, ◌<◌, ◌≤◌, Bool, true, false, if◌then◌else◌, List, [], ◌++◌, map, take, drop, replicate, length, slice_index_or, slice_set}
use Rattle.manchester_line.specs.declared.Sym.{Sym}
use Rattle.manchester_line.specs.declared.Sym.TheVariants.{Idle}
use Rattle.load_plan.specs.declared.plan.Plan.{Plan}
use Rattle.mac_parameters.specs.Parameters.{greatest_delay, most_ports}
use Rattle.repeater_core.specs.Step.{RepeaterDevice}
use Rattle.repeater_core.specs.Steady.{IsSteady}
use Rattle.window_room.specs.Rooms.{Room}
use Rattle.network.specs.Times.{decided}
use Rattle.net_parts.specs.declared.parcel.Parcel.{Parcel}
use Rattle.net_parts.specs.Machines.{span}
use Rattle.net_parts.specs.RepeaterParts.{RepeaterState, edges_at}
use Rattle.net_parts.specs.Standing.{port_hears, repeater_at}
use Rattle.net_parts.specs.Parts.{edges_of_part}
use Rattle.net_parts.specs.Windows.{lookahead, windows}
use Rattle.network.specs.Outputs.{half_bits}

-- The number of its device, the repeater with its time and its rows, how many more rows there is room for, what its
-- ports heard last, for how many half bits more it is known to be steady where they hear as in that row, and a row of
-- what was decided for its ports (profile).
pub record KeptRepeater : Type 0 where
  pub device : ℕ
  pub state : RepeaterState
  pub room : ℕ
  pub heard : List Sym
  pub steady : ℕ
  pub decided : List Sym

-- Each port has its guard and its places for what it emits and is sent; there are as many places for what is sent in
-- half bits that are made at once as a delay may have half bits; and a repeater has no captures (profile).
pub record FitTogether (ports : ℕ) (r : RepeaterDevice) (log : Room) (emitted decided sent : ℕ) : Type 0 where
  pub guards : length r.guards ≡ ports
  pub few : ports ≤ most_ports
  pub emitting : emitted ≡ ports
  pub deciding : decided ≡ ports
  pub sending : sent ≡ greatest_delay
  pub no_captures : log.captures ≡ []

-- What is kept of a repeater's steadiness: a row with a symbol for each port, and for how many half bits more it is
-- known to be steady where its ports hear as in that row (profile).
pub record IsKnownSteady (ports : ℕ) (r : RepeaterDevice) (heard : List Sym) (steady : ℕ) : Type 0 where
  pub hearing : length heard ≡ ports
  pub stays_steady : IsSteady heard r steady

-- What parcels bring for half bit k of a window, in their order (profile).
abbrev pub row_brought : ℕ → List Parcel → List Sym
row_brought k parcels = map (λ p. slice_index_or p.symbols k Idle) parcels

-- A parcel with this symbol for half bit k of a window (profile).
abbrev pub with_symbol : ℕ → Sym → Parcel → Parcel
with_symbol k s p = record p { symbols = slice_set p.symbols k s }

-- The parcels have the symbols of this row for half bit k of a window, and are else as they were (profile).
abbrev pub HaveRow : ℕ → List Sym → List Parcel → List Parcel → Type 0
HaveRow k row old new =
    (p : ℕ) (d : Parcel) → p < length new
    → slice_index_or new p d ≡ with_symbol k (slice_index_or row p Idle) (slice_index_or old p d)

-- A parcel with these symbols for the half bits of a window from k on (profile).
abbrev pub with_piece : ℕ → List Sym → Parcel → Parcel
with_piece k piece p =
    record p { symbols = take k p.symbols ++ (piece ++ drop (k + length piece) p.symbols) }

-- What is decided for a port in half bits in which all ports that are sent a signal are sent these symbols, and the
-- others Idle (profile).
abbrev pub piece_of : Bool → List Sym → List Sym
piece_of sends sent = if sends then sent else replicate (length sent) Idle

-- A parcel on its way to its segment, with this stamp (profile).
abbrev pub turned_to_segment : ℕ → Parcel → Parcel
turned_to_segment stamp p = record p { window = stamp; to_repeater = false }

-- The parcel of edge e at its repeater in window w, which begins with half bit t and has n: for the first k of them it
-- has what was decided for the port, and for the others what the port hears (clause 9, profile).
abbrev pub parcel_after : Plan → ℕ → ℕ → ℕ → ℕ → ℕ → Parcel
parcel_after plan w t n k e = record {
  edge = e;
  window = w;
  to_repeater = true;
  symbols = span (decided plan e) t k ++ span (port_hears plan e) (t + k) (n - k);
  spoiled = false;
}

-- The parcels of repeater i in such a window, in order of its edges (profile).
abbrev pub parcels_after : Plan → ℕ → ℕ → ℕ → ℕ → ℕ → List Parcel
parcels_after plan i w t n k = map (parcel_after plan w t n k) (edges_at plan.layout i)

-- What the part of repeater i knows of its plan: its number among the parts, how many windows there are, the half bits
-- of a window and of the run, and its edges (profile).
pub record IsRepeatersPart (plan : Plan) (u i last lead run : ℕ) (edges : List ℕ) : Type 0 where
  pub number : u ≡ length plan.layout.segments + i
  pub within : i < length plan.layout.repeaters
  pub last_is : last ≡ windows plan
  pub lead_is : lead ≡ lookahead plan.layout
  pub run_is : run ≡ half_bits plan
  pub edges_are : edges ≡ edges_of_part plan u

-- What is kept stands for repeater i of a plan before half bit t (profile).
pub record StandsAt (plan : Plan) (i t : ℕ) (kept : KeptRepeater) : Type 0 where
  pub device : kept.device ≡ length plan.layout.stations + i
  pub state : kept.state ≡ repeater_at plan i t
