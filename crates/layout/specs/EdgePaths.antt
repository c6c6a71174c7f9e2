-- Parts of a network that a path of edges joins (profile). Parts have numbers from 0.
use Rattle.std.specs.Prelude.{◌≡◌, ◌⊎◌, ◌↔◌, ℕ, ◌<◌, true, List, [], ◌∷◌}
use Rattle.layout.specs.declared.edge.Edge.{Edge}
use Rattle.layout.specs.Joined.{is_joined}

-- the edge goes between these two parts, either way
abbrev pub GoesBetween : Edge → ℕ → ℕ → Type 0
GoesBetween e a b = ((e.from ≡ a) × (e.to ≡ b)) ⊎ ((e.from ≡ b) × (e.to ≡ a))

-- some edge goes between these two parts
abbrev pub AreNeighbours : List Edge → ℕ → ℕ → Type 0
AreNeighbours [] a b = ⊥
AreNeighbours (e ∷ es) a b = GoesBetween e a b ⊎ AreNeighbours es a b

-- a path of edges from one part to another: it stays where it is, or goes on to a neighbour and from there by a path
pub data EdgePath (edges : List Edge) : ℕ → ℕ → Type 0 where
  stay : {a : ℕ} → EdgePath edges a a
  go_on : {a b c : ℕ} → AreNeighbours edges a b → EdgePath edges b c → EdgePath edges a c

-- each end of each edge is a part below n
abbrev pub HaveEndsBelow : ℕ → List Edge → Type 0
HaveEndsBelow n [] = Unit {0}
HaveEndsBelow n (e ∷ es) = (e.from < n) × (e.to < n) × HaveEndsBelow n es

-- two of n parts have one colour exactly where a path of edges leads from the one to the other
abbrev pub ColoursTellPaths : ℕ → List Edge → Type 0
ColoursTellPaths n edges = (a b : ℕ) → a < n → b < n → (is_joined n edges a b ≡ true) ↔ EdgePath edges a b
