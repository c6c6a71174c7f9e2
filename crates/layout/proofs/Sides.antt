-- In a tree each tap separates the network.
use Rattle.std.proofs.Common.{◌≡◌, ◌≢◌, refl, sym, ◌∙◌, ap, ℕ, zero, suc, ◌+◌, ◌<◌, ◌≤◌, ◌==◌, Bool, true, false, List, [], ◌∷◌, ◌++◌, map, length, Option, None, Some, slice_get, arith}
use Rattle.std.specs.Option.{option_map, unwrap_or}
use Rattle.std.proofs.lemmas.Option.{option_and_then_some}
use Rattle.std.proofs.lemmas.Bool.{eq-eqb, ne_eqb}
use Rattle.layout.specs.declared.edge.Edge.{Edge}
use Rattle.layout.specs.declared.lines.Layout.{Layout}
use Rattle.layout.specs.declared.lines.PortLine.{PortLine}
use Rattle.layout.specs.declared.lines.RepeaterLine.{RepeaterLine}
use Rattle.layout.specs.declared.ways.Attachment.{Attachment}
use Rattle.layout.specs.declared.ways.Attachment.TheVariants.{Station, Port}
use Rattle.layout.specs.declared.ways.Way.{Way}
use Rattle.layout.specs.declared.ways.Way.TheVariants as way
use Rattle.layout.specs.Networks.{edge_at, edges_from, network_edges, parts_of, IsTree}
use Rattle.layout.specs.Paths.{place, IsTap, part_by, StandsOnSegments}
use Rattle.layout.proofs.Cuts.{IsCut, HasCuts}
use Rattle.layout.specs.EdgePaths.{HaveEndsBelow}
use Rattle.layout.specs.Among.{IsAmong}
use Rattle.layout.proofs.Separations.{PortEdge, Separates, AllSeparate, edges_separate, named_from, edges_named, edges_named-from, edge_among}

-- a port and its row
pub record IsPortOf (rows : List RepeaterLine) (r p : ℕ) (line : PortLine) : Type 0 where
  pub row : RepeaterLine
  pub of_row : slice_get rows r ≡ Some row
  pub of_port : slice_get row.ports p ≡ Some line

pub port_of : (l : Layout) (r p : ℕ) (line : PortLine) → place l (Port r p) ≡ Some line → IsPortOf l.repeaters r p line
port_of l r p line h =
    option_and_then_some (λ row. slice_get row.ports p) (slice_get l.repeaters r) line h (λ row a b. record { row = row; of_row = a; of_port = b })

pub port_placed : (l : Layout) (r p : ℕ) (line : PortLine) → IsPortOf l.repeaters r p line → place l (Port r p) ≡ Some line
port_placed l r p line is = rw (is.of_row) is.of_port

-- each edge's ends are parts of the network
within_ports : (n part : ℕ) (lines : List PortLine) → part < n → ((j : ℕ) (line : PortLine) → slice_get lines j ≡ Some line → line.segment < n) → (rest : List Edge) → HaveEndsBelow n rest → HaveEndsBelow n (map (edge_at part) lines ++ rest)
within_ports n part [] low all rest h = h
within_ports n part (x ∷ xs) low all rest h = (low, all zero x refl, within_ports n part xs low (λ j line e. all (suc j) line e) rest h)

pub within_from : (n part : ℕ) (rows : List RepeaterLine) → part + length rows ≤ n → ((r p : ℕ) (line : PortLine) → IsPortOf rows r p line → line.segment < n) → HaveEndsBelow n (edges_from part rows)
within_from n part [] low all = tt
within_from n part (x ∷ xs) low all =
    within_ports n part x.ports (omega arith) (λ j line e. all zero j line (record { row = x; of_row = refl; of_port = e }))
    (edges_from (suc part) xs)
    (within_from n (suc part) xs (omega arith) (λ r p line is. all (suc r) p line (record { row = is.row; of_row = is.of_row; of_port = is.of_port })))

pub network_within : (l : Layout) → StandsOnSegments l → HaveEndsBelow (parts_of l) (network_edges l)
network_within l stands =
    within_from (parts_of l) (length l.segments) l.repeaters (omega arith) (λ r p line is.
    let low : line.segment < length l.segments = stands (Port r p) line (port_placed l r p line is) in
    omega arith)

-- the colours for a station: it alone stands behind its tap
abbrev alone : ℕ → Way → Attachment → Bool
alone k way.Cable g = false
alone k way.Repeater (Station j) = j == k
alone k way.Repeater (Port r p) = false

alone_others : (k : ℕ) (g : Attachment) → g ≢ Station k → alone k way.Cable g ≡ alone k way.Repeater g
alone_others k (Station j) ne = sym (ne_eqb j k (λ e. ne (ap (λ n. Station n) e)))
alone_others k (Port r p) ne = refl

alone_along : (l : Layout) (k : ℕ) (w : Way) (a b : Attachment) (part : ℕ) → part_by l w a ≡ Some part → part_by l w b ≡ Some part → alone k w a ≡ alone k w b
alone_along l k way.Cable a b part from to = refl
alone_along l k way.Repeater (Station i) b part from to = absurd (cc)
alone_along l k way.Repeater (Port r p) (Station j) part from to = absurd (cc)
alone_along l k way.Repeater (Port r p) (Port s q) part from to = refl

station_cut : (l : Layout) (k : ℕ) → IsCut l (Station k) (alone k)
station_cut l k = record {
  crosses = λ e. let same : (k == k) ≡ true = eq-eqb k k refl in cc;
  others = λ g is ne. alone_others k g ne;
  along = λ w a b s. alone_along l k w a b s.part s.from s.to;
}

-- a tap's segment by its number, 0 where there is no tap
abbrev segment_number : Layout → Attachment → ℕ
segment_number l t = unwrap_or (part_by l way.Cable t) 0

-- the colours for a port, from those of the parts
abbrev by_parts : Layout → (ℕ → Bool) → Way → Attachment → Bool
by_parts l d way.Cable g = d (segment_number l g)
by_parts l d way.Repeater (Station k) = d (segment_number l (Station k))
by_parts l d way.Repeater (Port r p) = d (length l.segments + r)

constant : (r part : ℕ) (o : Option PortLine) → option_map (λ _. r) o ≡ Some part → r ≡ part
constant r part None h = absurd (cc)
constant r part (Some x) h = cc

pub repeater_number : (l : Layout) (r p part : ℕ) → part_by l way.Repeater (Port r p) ≡ Some part → r ≡ part
repeater_number l r p part h = constant r part (place l (Port r p)) h

by_parts_along : (l : Layout) (d : ℕ → Bool) (w : Way) (a b : Attachment) (part : ℕ) → part_by l w a ≡ Some part → part_by l w b ≡ Some part → by_parts l d w a ≡ by_parts l d w b
by_parts_along l d way.Cable a b part from to = rw (from, to) refl
by_parts_along l d way.Repeater (Station i) b part from to = absurd (cc)
by_parts_along l d way.Repeater (Port r p) (Station j) part from to = absurd (cc)
by_parts_along l d way.Repeater (Port r p) (Port s q) part from to = ap (λ n. d (length l.segments + n)) (repeater_number l r p part from ∙ sym (repeater_number l s q part to))

-- the edges of all ports
abbrev pub port_edges : Layout → List PortEdge
port_edges l = named_from (length l.segments) 0 l.repeaters

network_separates : (l : Layout) → StandsOnSegments l → IsTree l → AllSeparate (port_edges l)
network_separates l stands tree =
    let same : edges_named (port_edges l) ≡ network_edges l = edges_named-from (length l.segments) 0 l.repeaters in
    edges_separate (parts_of l) (port_edges l) (rw same (network_within l stands)) (rw same tree.loops)

-- the edge of one port
abbrev pub port_edge : Layout → ℕ → ℕ → PortLine → PortEdge
port_edge l r p line = record { tap = Port r p; edge = edge_at (length l.segments + r) line }

pub port_edge_among : (l : Layout) (r p : ℕ) (line : PortLine) → place l (Port r p) ≡ Some line → IsAmong (port_edge l r p line) (port_edges l)
port_edge_among l r p line h =
    let is : IsPortOf l.repeaters r p line = port_of l r p line h in
    edge_among (length l.segments) 0 (length l.segments + r) r r p l.repeaters is.row line is.of_row is.of_port (omega arith) refl

segment_number_is : (l : Layout) (t : Attachment) (line : PortLine) → place l t ≡ Some line → segment_number l t ≡ line.segment
segment_number_is l t line h = rw h refl

by_parts_others : (l : Layout) (d : ℕ → Bool) (r p : ℕ) (line : PortLine) → Separates (port_edges l) (port_edge l r p line) d → (g : Attachment) → IsTap l g → g ≢ Port r p → by_parts l d way.Cable g ≡ by_parts l d way.Repeater g
by_parts_others l d r p line parts (Station k) is ne = refl
by_parts_others l d r p line parts (Port s q) (other, h) ne =
    ap d (segment_number_is l (Port s q) other h) ∙ sym (parts.others (port_edge l s q other) (port_edge_among l s q other h) ne)

port_cut : (l : Layout) → StandsOnSegments l → IsTree l → (r p : ℕ) (line : PortLine) → place l (Port r p) ≡ Some line → (c : Way → Attachment → Bool) × IsCut l (Port r p) c
port_cut l stands tree r p line h =
    let all : AllSeparate (port_edges l) = network_separates l stands tree in
    let found : (d : ℕ → Bool) × Separates (port_edges l) (port_edge l r p line) d = all (port_edge l r p line) (port_edge_among l r p line h) in (
      by_parts l found.0,
      record {
        crosses = λ e. found.1.crosses (sym e ∙ ap found.0 (segment_number_is l (Port r p) line h));
        others = λ g is ne. by_parts_others l found.0 r p line found.1 g is ne;
        along = λ w a b s. by_parts_along l found.0 w a b s.part s.from s.to;
      },
    )

pub tree_has_cuts : (l : Layout) → StandsOnSegments l → IsTree l → HasCuts l
tree_has_cuts l stands tree (Station k) is = (alone k, station_cut l k)
tree_has_cuts l stands tree (Port r p) (line, h) = port_cut l stands tree r p line h
