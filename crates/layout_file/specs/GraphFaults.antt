-- Loops and segments apart: the parts of a network are its segments and after them its repeaters (profile).
use Rattle.std.specs.Prelude.{ℕ, ◌+◌, ◌-◌, Bool, true, false, not, ◌&&◌, if◌then◌else◌, List, [], ◌∷◌, ◌++◌, length, slice_index, ◌==◌, Option, None, Some}
use Rattle.layout_file.specs.declared.fault.Key.TheVariants as key
use Rattle.layout_file.specs.declared.fault.LayoutCode.TheVariants as code
use Rattle.layout_file.specs.declared.fault.LayoutFault.{LayoutFault}
use Rattle.layout.specs.declared.edge.Edge.{Edge}
use Rattle.layout_file.specs.declared.rules.Shape.{Shape}
use Rattle.layout_file.specs.declared.rules.Shape.TheVariants as shape
use Rattle.layout.specs.Joined.{is_joined, painted}
use Rattle.layout_file.specs.Lines.{place_of}
use Rattle.layout_file.specs.RowFaults.{or_else}
use Rattle.layout_file.specs.Spots.{Spot, fault}
use Rattle.layout_file.specs.Tree.{text_at}

-- the table is a port's
abbrev pub is_port : Shape → Bool
is_port shape.File = false
is_port shape.Segment = false
is_port shape.Station = false
is_port shape.Repeater = false
is_port shape.Port = true
is_port shape.Send = false

-- a port is an edge from its repeater to its segment, where the segments have these names
unfoldable pub edge_of : List (List ℕ) → Spot → Edge
edge_of segments s = record {
  from = length segments + (s.row - 1);
  to = place_of segments (text_at s.members key.Segment);
}

-- the edges of the ports among these tables
abbrev pub edges_of : List (List ℕ) → List Spot → List Edge
edges_of segments [] = []
edges_of segments (s ∷ ss) = if is_port s.shape then edge_of segments s ∷ edges_of segments ss else edges_of segments ss

-- the edge's ends are joined by these edges already
abbrev pub is_closed_by : ℕ → List Edge → Edge → Bool
is_closed_by parts edges e = is_joined parts edges e.from e.to

-- the table is a port whose repeater and segment the earlier ports join already
unfoldable pub closes_loop : ℕ → List (List ℕ) → List Spot → Spot → Bool
closes_loop parts segments earlier s =
    is_port s.shape && is_closed_by parts (edges_of segments earlier) (edge_of segments s)

-- the first port that closes a loop
abbrev pub first_loop : ℕ → List (List ℕ) → List Spot → List Spot → Option LayoutFault
first_loop parts segments earlier [] = None
first_loop parts segments earlier (s ∷ ss) =
    if closes_loop parts segments earlier s
    then Some (fault code.Loop s key.Segment)
    else first_loop parts segments (earlier ++ s ∷ []) ss

-- the table is a segment's
abbrev pub is_segment : Shape → Bool
is_segment shape.File = false
is_segment shape.Segment = true
is_segment shape.Station = false
is_segment shape.Repeater = false
is_segment shape.Port = false
is_segment shape.Send = false

-- the table is a segment that no path joins to the first segment
unfoldable pub is_apart : ℕ → List Edge → Spot → Bool
is_apart parts edges s = is_segment s.shape && not (is_joined parts edges 0 (s.row - 1))

-- the first segment apart
abbrev pub first_apart : ℕ → List Edge → List Spot → Option LayoutFault
first_apart parts edges [] = None
first_apart parts edges (s ∷ ss) =
    if is_apart parts edges s then Some (fault code.Apart s key.Name) else first_apart parts edges ss

-- a loop, or a segment apart, where there are so many repeaters and the segments have these names
unfoldable pub first_graph_fault : ℕ → List (List ℕ) → List Spot → Option LayoutFault
first_graph_fault repeaters segments ss =
    or_else (first_loop (length segments + repeaters) segments [] ss)
    (first_apart (length segments + repeaters) (edges_of segments ss) ss)

-- by the colours so far, the table is a port whose ends have one colour
unfoldable pub closes_in : List ℕ → List (List ℕ) → Spot → Bool
closes_in cs segments s =
    is_port s.shape && (slice_index cs (edge_of segments s).from == slice_index cs (edge_of segments s).to)

-- by the colours so far, the table is a segment with another colour than the first
unfoldable pub apart_in : List ℕ → Spot → Bool
apart_in cs s = is_segment s.shape && not (slice_index cs 0 == slice_index cs (s.row - 1))

-- the colours after the table's edge, where it is a port
unfoldable pub painted_by : List ℕ → List (List ℕ) → Spot → List ℕ
painted_by cs segments s = if is_port s.shape then painted cs (edge_of segments s) else cs
