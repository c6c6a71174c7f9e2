-- What the code keeps of the segments, and where it finds each tap (profile). Segments and taps count from 0, and so do
-- the taps of one cable.
use Rattle.std.specs.Prelude.{ℕ, ◌+◌, ◌<◌, List, [], ◌∷◌, map, length, take, slice_index_or}
use Rattle.manchester_line.specs.declared.Sym.{Sym}
use Rattle.manchester_line.specs.declared.Sym.TheVariants.{Idle}
use Rattle.cable_segment.specs.Bus.{heard_at}
use Rattle.cable_segment.specs.Cable.{CableHistory, told_at, told, silent, advanced}
use Rattle.layout.specs.declared.lines.PortLine.{PortLine}
use Rattle.net_step.specs.declared.places.TapOnSegment.{TapOnSegment}
use Rattle.layout.specs.Taps.{positions_on}
use Rattle.network.specs.TapsOnSegments.{count_on, numbers_on}

-- A segment: its cable, and the number of each of its taps among all taps.
pub record Wire : Type 0 where
  pub cable : CableHistory
  pub taps : List ℕ

-- The symbols of these taps, by their numbers among all taps, where the row has what all taps emit.
abbrev pub symbols_of : List Sym → List ℕ → List Sym
symbols_of row taps = map (λ q. slice_index_or row q Idle) taps

-- A cable is told these symbols of the present half bit, for its taps from tap r on.
abbrev pub told_from : CableHistory → ℕ → List Sym → CableHistory
told_from c r [] = c
told_from c r (s ∷ ss) = told_from (told c c.ahead r s) (r + 1) ss

-- A segment after a half bit in which all taps emit these symbols.
abbrev pub carried : List Sym → Wire → Wire
carried row w = record { cable = advanced (told_from w.cable 0 (symbols_of row w.taps)); taps = w.taps }

-- A segment without taps.
abbrev pub no_wire : Wire
no_wire = record { cable = silent [] 0; taps = [] }

-- Segment s, and one without taps where there is no segment s.
abbrev pub wire_at : List Wire → ℕ → Wire
wire_at wires s = slice_index_or wires s no_wire

-- What the tap at a place hears in the present half bit.
abbrev pub heard_at_place : List Wire → TapOnSegment → Sym
heard_at_place wires p =
    heard_at (told_at (wire_at wires p.segment).cable) (wire_at wires p.segment).cable.positions p.local

-- There is a tap at a place.
abbrev pub IsPlaced : List Wire → TapOnSegment → Type 0
IsPlaced wires p = (p.segment < length wires) × (p.local < length (wire_at wires p.segment).cable.positions)

-- The places of a cable's taps in half bits from its end: a segment without a tap gets one that nobody uses.
abbrev pub cable_places : List ℕ → List ℕ
cable_places [] = 0 ∷ []
cable_places (p ∷ ps) = p ∷ ps

-- Segment s of these taps before half bit 0.
abbrev pub new_wire : List PortLine → ℕ → Wire
new_wire taps s = record { cable = silent (cable_places (positions_on s taps)) 0; taps = numbers_on s 0 taps }

-- The place of each of these taps among all taps: its segment, and its number on that. The first of these is tap q.
abbrev pub places_from : ℕ → List PortLine → List PortLine → List TapOnSegment
places_from q all [] = []
places_from q all (x ∷ xs) =
    record { segment = x.segment; local = count_on x.segment (take q all) } ∷ places_from (q + 1) all xs
