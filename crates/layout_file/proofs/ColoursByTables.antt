-- The colours after one more table.
use Rattle.std.proofs.Common.{◌≡◌, ap, refl, ℕ, true, false, if◌then◌else◌, List, [], ◌∷◌, ◌++◌, append-nil, append_assoc, Option, None, Some, inl, inr}
use Rattle.std.proofs.lemmas.Bool.{cases_Bool}
use Rattle.layout_file.specs.declared.fault.Key.TheVariants as key
use Rattle.layout_file.specs.declared.fault.LayoutCode.TheVariants as code
use Rattle.layout_file.specs.declared.fault.LayoutFault.{LayoutFault}
use Rattle.layout.specs.declared.edge.Edge.{Edge}
use Rattle.layout_file.specs.Spots.{Spot, fault}
use Rattle.layout.specs.Joined.{colours, counted_up, painted_all, painted, is_joined}
use Rattle.layout_file.specs.GraphFaults.{is_port, edges_of, edge_of, painted_by, closes_in, closes_loop, first_loop, is_apart, apart_in, first_apart}

painted_all-last : (cs : List ℕ) (es : List Edge) (e : Edge) → painted_all cs (es ++ e ∷ []) ≡ painted (painted_all cs es) e
painted_all-last cs [] e = refl
painted_all-last cs (f ∷ es) e = painted_all-last (painted cs f) es e

colours-last : (parts : ℕ) (es : List Edge) (e : Edge) → colours parts (es ++ e ∷ []) ≡ painted (colours parts es) e
unfolding colours
colours-last parts es e = painted_all-last (counted_up parts) es e

pub edges_of-port : (segments : List (List ℕ)) (xs : List Spot) (s : Spot) → is_port s.shape ≡ true → edges_of segments (xs ++ s ∷ []) ≡ edges_of segments xs ++ edge_of segments s ∷ []
edges_of-port segments [] s port = rw port refl
edges_of-port segments (x ∷ xs) s last =
    elim (cases_Bool (is_port x.shape)) [
      | inl port ↦ rw port (ap (λ es. edge_of segments x ∷ es) (edges_of-port segments xs s last))
      | inr none ↦ rw none (edges_of-port segments xs s last)
    ]

pub edges_of-other : (segments : List (List ℕ)) (xs : List Spot) (s : Spot) → is_port s.shape ≡ false → edges_of segments (xs ++ s ∷ []) ≡ edges_of segments xs
edges_of-other segments [] s other = rw other refl
edges_of-other segments (x ∷ xs) s other =
    elim (cases_Bool (is_port x.shape)) [
      | inl port ↦ rw port (ap (λ es. edge_of segments x ∷ es) (edges_of-other segments xs s other))
      | inr none ↦ rw none (edges_of-other segments xs s other)
    ]

-- one more table
colours_next : (parts : ℕ) (segments : List (List ℕ)) (xs : List Spot) (s : Spot) → colours parts (edges_of segments (xs ++ s ∷ [])) ≡ painted_by (colours parts (edges_of segments xs)) segments s
unfolding painted_by
colours_next parts segments xs s =
    elim (cases_Bool (is_port s.shape)) [
      | inl port ↦ rw (port, edges_of-port segments xs s port) (colours-last parts (edges_of segments xs) (edge_of segments s))
      | inr other ↦ rw (other, edges_of-other segments xs s other) refl
    ]

closes_loop_colours : (parts : ℕ) (segments : List (List ℕ)) (xs : List Spot) (s : Spot) → closes_loop parts segments xs s ≡ closes_in (colours parts (edges_of segments xs)) segments s
unfolding closes_loop closes_in is_joined
closes_loop_colours parts segments xs s = refl

colours_none : (parts : ℕ) → colours parts [] ≡ counted_up parts
unfolding colours
colours_none parts = refl

-- the first loop by the colours so far
abbrev pub loop_in : List ℕ → List (List ℕ) → List Spot → Option LayoutFault
loop_in cs segments [] = None
loop_in cs segments (s ∷ ss) = if closes_in cs segments s then Some (fault code.Loop s key.Segment) else loop_in (painted_by cs segments s) segments ss

loop_in-colours : (parts : ℕ) (segments : List (List ℕ)) (xs ys : List Spot) → first_loop parts segments xs ys ≡ loop_in (colours parts (edges_of segments xs)) segments ys
loop_in-colours parts segments xs [] = refl
loop_in-colours parts segments xs (s ∷ ss) =
    elim (cases_Bool (closes_in (colours parts (edges_of segments xs)) segments s)) [
      | inl closed ↦ rw (closes_loop_colours parts segments xs s, closed) refl
      | inr free ↦ rw (closes_loop_colours parts segments xs s, free, ← colours_next parts segments xs s) (loop_in-colours parts segments (xs ++ s ∷ []) ss)
    ]

pub first_loop_in : (parts : ℕ) (segments : List (List ℕ)) (ss : List Spot) → first_loop parts segments [] ss ≡ loop_in (counted_up parts) segments ss
first_loop_in parts segments ss = rw (← colours_none parts) (loop_in-colours parts segments [] ss)

-- the colours after more tables
abbrev pub painted_by_all : List ℕ → List (List ℕ) → List Spot → List ℕ
painted_by_all cs segments [] = cs
painted_by_all cs segments (s ∷ ss) = painted_by_all (painted_by cs segments s) segments ss

painted_by_all-colours : (parts : ℕ) (segments : List (List ℕ)) (xs ys : List Spot) → colours parts (edges_of segments (xs ++ ys)) ≡ painted_by_all (colours parts (edges_of segments xs)) segments ys
painted_by_all-colours parts segments xs [] = rw append-nil refl
painted_by_all-colours parts segments xs (s ∷ ss) =
    rw (← colours_next parts segments xs s, ← append_assoc xs (s ∷ []) ss) (painted_by_all-colours parts segments (xs ++ s ∷ []) ss)

pub colours_by_all : (parts : ℕ) (segments : List (List ℕ)) (ss : List Spot) → colours parts (edges_of segments ss) ≡ painted_by_all (counted_up parts) segments ss
colours_by_all parts segments ss = rw (← colours_none parts) (painted_by_all-colours parts segments [] ss)

-- the first segment of another colour than the first one
abbrev pub first_apart_in : List ℕ → List Spot → Option LayoutFault
first_apart_in cs [] = None
first_apart_in cs (s ∷ ss) = if apart_in cs s then Some (fault code.Apart s key.Name) else first_apart_in cs ss

is_apart-colours : (parts : ℕ) (edges : List Edge) (s : Spot) → is_apart parts edges s ≡ apart_in (colours parts edges) s
unfolding is_apart apart_in is_joined
is_apart-colours parts edges s = refl

pub first_apart_colours : (parts : ℕ) (edges : List Edge) (ss : List Spot) → first_apart parts edges ss ≡ first_apart_in (colours parts edges) ss
first_apart_colours parts edges [] = refl
first_apart_colours parts edges (s ∷ ss) = rw (is_apart-colours parts edges s, first_apart_colours parts edges ss) refl
