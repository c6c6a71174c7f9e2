-- A network without a loop in which no segment stands apart is a tree.
use Rattle.std.proofs.Common.{◌≡◌, ℕ, zero, suc, ◌+◌, ◌-◌, ◌<◌, true, false, List, [], ◌∷◌, ◌++◌, map, length, None, refl, sym, ap, ap₂, ◌∙◌, arith, inl, inr, append-nil}
use Rattle.std.proofs.lemmas.Bool.{not-false, cases_Bool}
use Rattle.std.proofs.lemmas.List.{length-map}
use Rattle.toml.specs.Data.{Members}
use Rattle.layout_file.specs.declared.fault.Key.TheVariants as key
use Rattle.layout_file.specs.declared.fault.LayoutCode.TheVariants as code
use Rattle.layout.specs.declared.edge.Edge.{Edge}
use Rattle.layout.specs.declared.lines.Layout.{Layout}
use Rattle.layout_file.specs.declared.rules.Shape.TheVariants as shape
use Rattle.layout_file.specs.GraphFaults.{is_port, edge_of, edges_of, closes_loop, is_closed_by, first_loop, is_apart, first_apart, first_graph_fault}
use Rattle.layout.specs.Joined.{is_joined}
use Rattle.layout_file.specs.Lines.{place_of, port_of, repeater_of, layout_of, segment_of}
use Rattle.layout.specs.Networks.{edge_at, edges_from, CloseNoLoop, IsTree}
use Rattle.layout_file.specs.Spots.{Spot, spots_of_rows, ports, repeaters, spots, fault}
use Rattle.layout_file.specs.Tree.{rows_at, text_at, names_of}
use Rattle.layout_file.proofs.RowsWithoutFault.{or_else-parts, if-none}
use Rattle.layout_file.proofs.ColoursByTables.{edges_of-port, edges_of-other}
use Rattle.layout_file.proofs.NamesOfRows.{length-names_of}

edges_of-append : (segments : List (List ℕ)) (xs ys : List Spot) → edges_of segments (xs ++ ys) ≡ edges_of segments xs ++ edges_of segments ys
edges_of-append segments [] ys = refl
edges_of-append segments (x ∷ xs) ys =
    elim (cases_Bool (is_port x.shape)) [
      | inl port ↦ rw port (ap (λ l. edge_of segments x ∷ l) (edges_of-append segments xs ys))
      | inr other ↦ rw other (edges_of-append segments xs ys)
    ]

no_segment_edge : (segments : List (List ℕ)) (n : ℕ) (rows : List Members) → edges_of segments (spots_of_rows shape.Segment n rows) ≡ []
no_segment_edge segments n [] = refl
no_segment_edge segments n (ms ∷ rows) = no_segment_edge segments (n + 1) rows

no_station_edge : (segments : List (List ℕ)) (n : ℕ) (rows : List Members) → edges_of segments (spots_of_rows shape.Station n rows) ≡ []
no_station_edge segments n [] = refl
no_station_edge segments n (ms ∷ rows) = no_station_edge segments (n + 1) rows

no_send_edge : (segments : List (List ℕ)) (n : ℕ) (rows : List Members) → edges_of segments (spots_of_rows shape.Send n rows) ≡ []
no_send_edge segments n [] = refl
no_send_edge segments n (ms ∷ rows) = no_send_edge segments (n + 1) rows

port_edges : (segments : List (List ℕ)) (n p : ℕ) (rows : List Members) → edges_of segments (ports (suc n) p rows) ≡ map (edge_at (length segments + n)) (map (port_of segments) rows)
unfolding edge_of port_of
port_edges segments n p [] = refl
port_edges segments n p (ms ∷ rows) =
    let e : length segments + (suc n - 1) ≡ length segments + n = omega arith in
    ap₂ (λ a l. record { from = a; to = place_of segments (text_at ms key.Segment) } ∷ l) e (port_edges segments n (p + 1) rows)

repeater_edges : (segments : List (List ℕ)) (n : ℕ) (rows : List Members) → edges_of segments (repeaters (suc n) rows) ≡ edges_from (length segments + n) (map (repeater_of segments) rows)
unfolding repeater_of
repeater_edges segments n [] = refl
repeater_edges segments n (ms ∷ rows) =
    let s : Spot = record { shape = shape.Repeater; row = suc n; port = 0; members = ms } in
    let next : suc n + 1 ≡ suc (suc n) = omega arith in
    let part : length segments + suc n ≡ suc (length segments + n) = omega arith in
    edges_of-append segments (s ∷ ports (suc n) 1 (rows_at ms key.Port)) (repeaters (suc n + 1) rows)
    ∙ ap₂ (λ a b. a ++ b) (port_edges segments n 1 (rows_at ms key.Port))
    (ap (λ k. edges_of segments (repeaters k rows)) next ∙ repeater_edges segments (suc n) rows ∙ ap (λ k. edges_from k (map (repeater_of segments) rows)) part)

-- the edges of the ports are those of the layout's network
spot_edges : (segments : List (List ℕ)) (ms : Members) → edges_of segments (spots ms) ≡ edges_from (length segments) (map (repeater_of segments) (rows_at ms key.Repeater))
unfolding spots
spot_edges segments ms =
    let s : Spot = record { shape = shape.File; row = 0; port = 0; members = ms } in
    let a : List Spot = spots_of_rows shape.Segment 1 (rows_at ms key.Segment) in
    let b : List Spot = spots_of_rows shape.Station 1 (rows_at ms key.Station) in
    let c : List Spot = repeaters 1 (rows_at ms key.Repeater) in
    let d : List Spot = spots_of_rows shape.Send 1 (rows_at ms key.Send) in
    let e : length segments + 0 ≡ length segments = omega arith in
    edges_of-append segments ((((s ∷ []) ++ a) ++ b) ++ c) d
    ∙ ap (λ l. edges_of segments ((((s ∷ []) ++ a) ++ b) ++ c) ++ l) (no_send_edge segments 1 (rows_at ms key.Send))
    ∙ append-nil (edges_of segments ((((s ∷ []) ++ a) ++ b) ++ c))
    ∙ edges_of-append segments (((s ∷ []) ++ a) ++ b) c
    ∙ ap₂ (λ x y. x ++ y)
    (edges_of-append segments ((s ∷ []) ++ a) b ∙ ap₂ (λ x y. x ++ y) (no_segment_edge segments 1 (rows_at ms key.Segment)) (no_station_edge segments 1 (rows_at ms key.Station)))
    (repeater_edges segments 0 (rows_at ms key.Repeater) ∙ ap (λ k. edges_from k (map (repeater_of segments) (rows_at ms key.Repeater))) e)

no_loop : (parts : ℕ) (segments : List (List ℕ)) (earlier ss : List Spot) → first_loop parts segments earlier ss ≡ None → CloseNoLoop parts (edges_of segments earlier) (edges_of segments ss)
unfolding closes_loop
no_loop parts segments earlier [] h = tt
no_loop parts segments earlier (s ∷ ss) h =
    let p = if-none (closes_loop parts segments earlier s) (fault code.Loop s key.Segment) (first_loop parts segments (earlier ++ s ∷ []) ss) h in
    let rest = no_loop parts segments (earlier ++ s ∷ []) ss p.1 in
    elim (cases_Bool (is_port s.shape)) [
      | inl port ↦
          let free : is_closed_by parts (edges_of segments earlier) (edge_of segments s) ≡ false = rw port at p.0 in
          rw port (free, (rw (edges_of-port segments earlier s port) at rest))
      | inr other ↦ rw other (rw (edges_of-other segments earlier s other) at rest)
    ]

first_apart-parts : (parts : ℕ) (edges : List Edge) (xs ys : List Spot) → first_apart parts edges (xs ++ ys) ≡ None → (first_apart parts edges xs ≡ None) × (first_apart parts edges ys ≡ None)
first_apart-parts parts edges [] ys h = (refl, h)
first_apart-parts parts edges (x ∷ xs) ys h =
    let p = if-none (is_apart parts edges x) (fault code.Apart x key.Name) (first_apart parts edges (xs ++ ys)) h in
    let q = first_apart-parts parts edges xs ys p.1 in
    (rw p.0 q.0, q.1)

from_first : (parts : ℕ) (edges : List Edge) (n count : ℕ) → is_joined parts edges 0 (suc n - 1) ≡ true → ((i : ℕ) → i < count → is_joined parts edges 0 (suc n + i) ≡ true) → (i : ℕ) → i < suc count → is_joined parts edges 0 (n + i) ≡ true
from_first parts edges n count first rest zero within = let e : n + 0 ≡ suc n - 1 = omega arith in rw e first
from_first parts edges n count first rest (suc i) within = let e : n + suc i ≡ suc n + i = omega arith in rw e (rest i (omega arith))

none_apart : (parts : ℕ) (edges : List Edge) (n : ℕ) (rows : List Members) → first_apart parts edges (spots_of_rows shape.Segment (suc n) rows) ≡ None → (i : ℕ) → i < length rows → is_joined parts edges 0 (n + i) ≡ true
unfolding is_apart
none_apart parts edges n [] h = λ i within. absurd (omega arith)
none_apart parts edges n (ms ∷ rows) h =
    let s : Spot = record { shape = shape.Segment; row = suc n; port = 0; members = ms } in
    let p = if-none (is_apart parts edges s) (fault code.Apart s key.Name) (first_apart parts edges (spots_of_rows shape.Segment (suc n + 1) rows)) h in
    let next : suc n + 1 ≡ suc (suc n) = omega arith in
    let joined : is_joined parts edges 0 (suc n - 1) ≡ true = not-false (is_joined parts edges 0 (suc n - 1)) p.0 in
    from_first parts edges n (length rows) joined (none_apart parts edges (suc n) rows (rw next at p.1))

joined_segments : (parts : ℕ) (edges : List Edge) (ms : Members) → first_apart parts edges (spots ms) ≡ None → (i : ℕ) → i < length (rows_at ms key.Segment) → is_joined parts edges 0 i ≡ true
unfolding spots
joined_segments parts edges ms h i within =
    let s : Spot = record { shape = shape.File; row = 0; port = 0; members = ms } in
    let a : List Spot = spots_of_rows shape.Segment 1 (rows_at ms key.Segment) in
    let b : List Spot = spots_of_rows shape.Station 1 (rows_at ms key.Station) in
    let c : List Spot = repeaters 1 (rows_at ms key.Repeater) in
    let d : List Spot = spots_of_rows shape.Send 1 (rows_at ms key.Send) in
    let to_c = (first_apart-parts parts edges ((((s ∷ []) ++ a) ++ b) ++ c) d h).0 in
    let to_b = (first_apart-parts parts edges (((s ∷ []) ++ a) ++ b) c to_c).0 in
    let to_a = (first_apart-parts parts edges ((s ∷ []) ++ a) b to_b).0 in
    let own = (first_apart-parts parts edges (s ∷ []) a to_a).1 in
    let e : 0 + i ≡ i = omega arith in
    rw e at (none_apart parts edges 0 (rows_at ms key.Segment) own i within)

-- the network's text by the rows that spell it
abbrev pub IsTreeOf : ℕ → ℕ → List Edge → Type 0
IsTreeOf parts segments edges = CloseNoLoop parts [] edges × ((i : ℕ) → i < segments → is_joined parts edges 0 i ≡ true)

tree_by_names : (segments : List (List ℕ)) (ms : Members) → first_graph_fault (length (rows_at ms key.Repeater)) segments (spots ms) ≡ None
    → IsTreeOf (length segments + length (rows_at ms key.Repeater)) (length (rows_at ms key.Segment)) (edges_from (length segments) (map (repeater_of segments) (rows_at ms key.Repeater)))
unfolding first_graph_fault
tree_by_names segments ms h =
    let parts : ℕ = length segments + length (rows_at ms key.Repeater) in
    let p = or_else-parts (first_loop parts segments [] (spots ms)) (first_apart parts (edges_of segments (spots ms)) (spots ms)) h in (
      rw (← spot_edges segments ms) (no_loop parts segments [] (spots ms) p.0),
      rw (← spot_edges segments ms) (joined_segments parts (edges_of segments (spots ms)) ms p.1),
    )

tree_of : (l : Layout) (names rows repeaters : ℕ) → names ≡ length l.segments → rows ≡ length l.segments → repeaters ≡ length l.repeaters → IsTreeOf (names + repeaters) rows (edges_from names l.repeaters) → IsTree l
tree_of l names rows repeaters a b c h =
    let p = rw (a, b, c) at h in
    record { loops = p.0; joined = p.1 }

pub tree : (ms : Members) → first_graph_fault (length (rows_at ms key.Repeater)) (names_of (rows_at ms key.Segment)) (spots ms) ≡ None → IsTree (layout_of ms)
unfolding layout_of
tree ms h =
    let names = names_of (rows_at ms key.Segment) in
    let segments = rows_at ms key.Segment in
    let joined = rows_at ms key.Repeater in
    tree_of (layout_of ms) (length names) (length segments) (length joined)
    (length-names_of segments ∙ sym (length-map segments segment_of)) (sym (length-map segments segment_of)) (sym (length-map joined (repeater_of names)))
    (tree_by_names names ms h)
