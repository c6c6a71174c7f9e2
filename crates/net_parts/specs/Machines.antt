-- What comes over the boundary of a part, row by row: a row has one symbol for each of the part's edges, in their
-- order (profile). Half bits and places in a list count from 0.
use Rattle.std.specs.Prelude.{ℕ, zero, suc, List, [], ◌∷◌, map, slice_index_or}
use Rattle.manchester_line.specs.declared.Sym.{Sym}
use Rattle.manchester_line.specs.declared.Sym.TheVariants.{Idle}

-- What f says of k and the numbers that follow it, so many in all (profile).
abbrev pub span : {X : Type 0} → (ℕ → X) → ℕ → ℕ → List X
span f k zero = []
span f k (suc n) = f k ∷ span f (suc k) n

-- What f says of the half bits below t, the latest first (profile).
abbrev pub rows_before : (ℕ → List Sym) → ℕ → List (List Sym)
rows_before f zero = []
rows_before f (suc t) = f t ∷ rows_before f t

-- A part makes a half bit of its state and of the row that comes in: the state after it, and the row that goes out
-- (profile).
pub record Machine (S : Type 0) : Type 0 where
  pub step : List Sym → S → S
  pub gives : List Sym → S → List Sym

-- What is left of a run over rows: the state after the last, and the rows that went out, in order of time (profile).
pub record Ran (S : Type 0) : Type 0 where
  pub state : S
  pub rows : List (List Sym)

-- A machine runs over the rows that come in, in order of time (profile).
abbrev pub run_rows : {S : Type 0} → Machine S → List (List Sym) → S → Ran S
run_rows m [] s = record { state = s; rows = [] }
run_rows m (row ∷ rest) s =
    let r = run_rows m rest (m.step row s) in
    record { state = r.state; rows = m.gives row s ∷ r.rows }

-- The row that parcels with these symbols, one for each edge, bring for half bit k of a window (profile).
abbrev pub column : List (List Sym) → ℕ → List Sym
column parcels k = map (λ ss. slice_index_or ss k Idle) parcels

-- The rows that they bring for the first n half bits of a window (profile).
abbrev pub columns : List (List Sym) → ℕ → List (List Sym)
columns parcels n = span (column parcels) 0 n

-- Rows as the symbols of the parcels of m edges (profile).
abbrev pub parcels_of : ℕ → List (List Sym) → List (List Sym)
parcels_of m rows = span (λ p. map (λ row. slice_index_or row p Idle) rows) 0 m
