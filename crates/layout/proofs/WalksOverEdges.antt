-- A walk from tap to tap goes over edges, so that a path of edges joins the segments of its ends.
use Rattle.std.proofs.Common.{◌≡◌, sym, ◌∙◌, ap, subst, inl, inr, ℕ, ◌+◌, List, [], ◌∷◌, length, Some}
use Rattle.std.specs.Option.{option_map}
use Rattle.std.proofs.lemmas.Option.{same_Some}
use Rattle.layout.specs.declared.edge.Edge.{Edge}
use Rattle.layout.specs.declared.lines.Layout.{Layout}
use Rattle.layout.specs.declared.lines.PortLine.{PortLine}
use Rattle.layout.specs.declared.ways.Attachment.{Attachment}
use Rattle.layout.specs.declared.ways.Attachment.TheVariants.{Station, Port}
use Rattle.layout.specs.declared.ways.Way.{Way}
use Rattle.layout.specs.declared.ways.Way.TheVariants as way
use Rattle.layout.specs.EdgePaths.{AreNeighbours, EdgePath, stay, go_on}
use Rattle.layout.specs.Networks.{network_edges}
use Rattle.layout.specs.Paths.{place, IsTap, part_by, other_way, IsWalk, StandsOnSegments, PathsFollowEdges}
use Rattle.layout.proofs.Cuts.{steps_to}
use Rattle.layout.proofs.Joins.{joined-trans}
use Rattle.layout.proofs.PathsOverEdges.{path_over_edges}
use Rattle.layout.proofs.Separations.{edges_named-from, neighbours_among}
use Rattle.layout.proofs.Sides.{port_edge, port_edges, port_edge_among, repeater_number}

neighbours_back : (es : List Edge) (a b : ℕ) → AreNeighbours es a b → AreNeighbours es b a
neighbours_back [] a b h = absurd h
neighbours_back (e ∷ es) a b h =
    elim h [ inl between ↦ inl (elim between [ inl x ↦ inr x | inr x ↦ inl x ]) | inr later ↦ inr (neighbours_back es a b later) ]

-- a port's repeater and its segment are neighbours
port_neighbours : (l : Layout) (r p : ℕ) (line : PortLine) → place l (Port r p) ≡ Some line → AreNeighbours (network_edges l) (length l.segments + r) line.segment
port_neighbours l r p line h =
    subst (λ (es : List Edge). AreNeighbours es (length l.segments + r) line.segment) (edges_named-from (length l.segments) 0 l.repeaters)
    (neighbours_among (port_edge l r p line) (port_edges l) (port_edge_among l r p line h))

stay_at : (edges : List Edge) (a b : ℕ) → a ≡ b → EdgePath edges a b
stay_at edges a b e = rw e stay

on_cable : (l : Layout) (t : Attachment) (p : PortLine) (part : ℕ) → place l t ≡ Some p → part_by l way.Cable t ≡ Some part → p.segment ≡ part
on_cable l t p part at of = same_Some p.segment part (sym (ap (option_map (λ (x : PortLine). x.segment)) at) ∙ of)

step_over_edges : (l : Layout) (w : Way) (a b : Attachment) (p q : PortLine) (part : ℕ) → place l a ≡ Some p → place l b ≡ Some q → part_by l w a ≡ Some part → part_by l w b ≡ Some part → EdgePath (network_edges l) p.segment q.segment
step_over_edges l way.Cable a b p q part pa qb from to =
    stay_at (network_edges l) p.segment q.segment (on_cable l a p part pa from ∙ sym (on_cable l b q part qb to))
step_over_edges l way.Repeater (Station i) b p q part pa qb from to = absurd (cc)
step_over_edges l way.Repeater (Port r i) (Station j) p q part pa qb from to = absurd (cc)
step_over_edges l way.Repeater (Port r i) (Port s j) p q part pa qb from to =
    let same : s ≡ r = repeater_number l s j part to ∙ sym (repeater_number l r i part from) in
    let in_front : AreNeighbours (network_edges l) (length l.segments + r) p.segment = port_neighbours l r i p pa in
    let beyond : AreNeighbours (network_edges l) (length l.segments + s) q.segment = port_neighbours l s j q qb in
    go_on (neighbours_back (network_edges l) (length l.segments + r) p.segment in_front)
    (go_on (subst (λ (n : ℕ). AreNeighbours (network_edges l) (length l.segments + n) q.segment) same beyond) stay)

walk_over_edges : (l : Layout) (w : Way) (a : Attachment) (ts : List Attachment) (b : Attachment) (p q : PortLine) → place l a ≡ Some p → place l b ≡ Some q → IsWalk l w a ts b → EdgePath (network_edges l) p.segment q.segment
walk_over_edges l w a [] b p q pa qb walk =
    let same : p ≡ q = same_Some p q (sym pa ∙ ap (place l) walk ∙ qb) in
    stay_at (network_edges l) p.segment q.segment (ap (λ (x : PortLine). x.segment) same)
walk_over_edges l w a (t ∷ ts) b p q pa qb walk =
    let there : IsTap l t = steps_to l w a t walk.0 in
    joined-trans (step_over_edges l w a t p there.0 walk.0.part pa there.1 walk.0.from walk.0.to)
    (walk_over_edges l (other_way w) t ts b there.0 q there.1 qb walk.1)

pub paths_follow_edges : (l : Layout) → StandsOnSegments l → PathsFollowEdges l
paths_follow_edges l stands a b p q pa qb ne =
    ((λ found. walk_over_edges l found.0.begins a found.0.taps b p q pa qb found.1), path_over_edges l stands a b p q pa qb ne)
