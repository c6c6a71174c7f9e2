-- The network of a layout as parts and edges: the parts are its segments and after them its repeaters, by numbers from
-- 0, and the edges are its ports, in the file's order (profile).
use Rattle.std.specs.Prelude.{◌≡◌, ℕ, suc, ◌+◌, ◌<◌, true, false, List, [], ◌∷◌, ◌++◌, map, length}
use Rattle.layout.specs.declared.edge.Edge.{Edge}
use Rattle.layout.specs.declared.lines.Layout.{Layout}
use Rattle.layout.specs.declared.lines.PortLine.{PortLine}
use Rattle.layout.specs.declared.lines.RepeaterLine.{RepeaterLine}
use Rattle.layout.specs.Joined.{is_joined}

-- a port of the repeater that is this part
abbrev pub edge_at : ℕ → PortLine → Edge
edge_at part p = record { from = part; to = p.segment }

-- the ports of these repeaters, the first of which is this part
abbrev pub edges_from : ℕ → List RepeaterLine → List Edge
edges_from part [] = []
edges_from part (r ∷ rs) = map (edge_at part) r.ports ++ edges_from (suc part) rs

-- all ports of a layout
abbrev pub network_edges : Layout → List Edge
network_edges l = edges_from (length l.segments) l.repeaters

-- how many parts a layout has
abbrev pub parts_of : Layout → ℕ
parts_of l = length l.segments + length l.repeaters

-- no edge's ends are joined by the edges before it
abbrev pub CloseNoLoop : ℕ → List Edge → List Edge → Type 0
CloseNoLoop parts before [] = Unit {0}
CloseNoLoop parts before (e ∷ es) =
    (is_joined parts before e.from e.to ≡ false) × CloseNoLoop parts (before ++ e ∷ []) es

-- the network is a tree: no port closes a loop, and every segment is joined to the first
pub record IsTree (l : Layout) : Type 0 where
  pub loops : CloseNoLoop (parts_of l) [] (network_edges l)
  pub joined : (s : ℕ) → s < length l.segments → is_joined (parts_of l) (network_edges l) 0 s ≡ true
