-- Colours of the parts of a network: where an edge joins two parts they get one colour, so that parts of one colour
-- are joined by edges (profile).
use Rattle.std.specs.Prelude.{ℕ, zero, suc, ◌==◌, Bool, if◌then◌else◌, List, [], ◌∷◌, ◌++◌, map, slice_index}
use Rattle.layout.specs.declared.edge.Edge.{Edge}

-- 0, 1, 2 and so on, n of them
abbrev pub counted_up : ℕ → List ℕ
counted_up zero = []
counted_up (suc n) = counted_up n ++ n ∷ []

-- the colour of the edge's one end becomes that of its other end
abbrev pub repaint : ℕ → ℕ → ℕ → ℕ
repaint old new c = if c == old then new else c

-- the colours after one edge
abbrev pub painted : List ℕ → Edge → List ℕ
painted cs e = map (repaint (slice_index cs e.from) (slice_index cs e.to)) cs

-- the colours after these edges, one after the other
abbrev pub painted_all : List ℕ → List Edge → List ℕ
painted_all cs [] = cs
painted_all cs (e ∷ es) = painted_all (painted cs e) es

-- the colour of each of n parts, after all edges
unfoldable pub colours : ℕ → List Edge → List ℕ
colours n edges = painted_all (counted_up n) edges

-- the two parts have one colour
unfoldable pub is_joined : ℕ → List Edge → ℕ → ℕ → Bool
is_joined n edges a b = slice_index (colours n edges) a == slice_index (colours n edges) b
