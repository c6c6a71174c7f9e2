-- In a network whose parts are joined a path leads from each tap to each other.
use Rattle.std.proofs.Common.{◌≡◌, ◌≢◌, ◌⊎◌, refl, sym, ◌∙◌, ap, subst, inl, inr, ℕ, zero, suc, ◌+◌, ◌<◌, true, List, [], ◌∷◌, ◌++◌, map, length, get_or, Option, None, Some, slice_get, arith}
use Rattle.std.specs.Option.{option_map}
use Rattle.std.proofs.lemmas.Option.{same_Some}
use Rattle.std.proofs.lemmas.Bool.Decides.{Decides-eqb}
use Rattle.layout.specs.declared.edge.Edge.{Edge}
use Rattle.layout.specs.declared.lines.Layout.{Layout}
use Rattle.layout.specs.declared.lines.PortLine.{PortLine}
use Rattle.layout.specs.declared.lines.RepeaterLine.{RepeaterLine}
use Rattle.layout.specs.declared.ways.Attachment.{Attachment}
use Rattle.layout.specs.declared.ways.Attachment.TheVariants.{Port}
use Rattle.layout.specs.declared.ways.Way.{Way}
use Rattle.layout.specs.declared.ways.Way.TheVariants as way
use Rattle.layout.specs.Joined.{colours, is_joined}
use Rattle.layout.specs.Networks.{edge_at, edges_from, network_edges, parts_of, IsTree}
use Rattle.layout.specs.Paths.{place, IsTap, part_by, IsStep, other_way, IsWalk, Path, IsPath}
use Rattle.layout.proofs.Cuts.{same_tap, same_way}
use Rattle.layout.specs.EdgePaths.{GoesBetween, AreNeighbours, EdgePath, stay, go_on}
use Rattle.layout.proofs.Joins.{joined_from}
use Rattle.layout.specs.Paths.{StandsOnSegments}
use Rattle.layout.proofs.Sides.{IsPortOf, port_placed, network_within}

-- the number of a segment or a repeater among the network's parts
abbrev part_number : Layout → Way → ℕ → ℕ
part_number l way.Cable k = k
part_number l way.Repeater k = length l.segments + k

-- by this way the tap is one of the part's
pub record IsOn (l : Layout) (w : Way) (t : Attachment) (part : ℕ) : Type 0 where
  pub number : ℕ
  pub of_tap : part_by l w t ≡ Some number
  pub is_part : part_number l w number ≡ part

segment_of : (o : Option PortLine) (n : ℕ) → option_map (λ (x : PortLine). x.segment) o ≡ Some n → (x : PortLine) × (o ≡ Some x) × (x.segment ≡ n)
segment_of None n h = absurd (cc)
segment_of (Some x) n h = (x, refl, same_Some x.segment n h)

segment_low : (l : Layout) → StandsOnSegments l → (t : Attachment) (n : ℕ) → part_by l way.Cable t ≡ Some n → n < length l.segments
segment_low l stands t n h =
    let found : (x : PortLine) × (place l t ≡ Some x) × (x.segment ≡ n) = segment_of (place l t) n h in
    subst (λ (m : ℕ). m < length l.segments) found.2 (stands t found.0 found.1)

one_number : (l : Layout) (w : Way) (m n : ℕ) → part_number l w m ≡ part_number l w n → m ≡ n
one_number l way.Cable m n h = h
one_number l way.Repeater m n h = omega arith

-- a part's taps are its by one way
one_kind : (l : Layout) → StandsOnSegments l → (v w : Way) (a b : Attachment) (part : ℕ) → IsOn l v a part → IsOn l w b part → v ≡ w
one_kind l stands way.Cable way.Cable a b part on too = refl
one_kind l stands way.Repeater way.Repeater a b part on too = refl
one_kind l stands way.Cable way.Repeater a b part on too =
    let low : on.number < length l.segments = segment_low l stands a on.number on.of_tap in
    let e : on.number ≡ part = on.is_part in
    let f : length l.segments + too.number ≡ part = too.is_part in
    absurd (omega arith)
one_kind l stands way.Repeater way.Cable a b part on too =
    let low : too.number < length l.segments = segment_low l stands b too.number too.of_tap in
    let e : too.number ≡ part = too.is_part in
    let f : length l.segments + on.number ≡ part = on.is_part in
    absurd (omega arith)

step_on : (l : Layout) (w : Way) (a b : Attachment) (part : ℕ) → IsOn l w a part → IsOn l w b part → a ≢ b → IsStep l w a b
step_on l w a b part on too ne =
    let same : too.number ≡ on.number = one_number l w too.number on.number (too.is_part ∙ sym on.is_part) in
    record { different = ne; part = on.number; from = on.of_tap; to = subst (λ (n : ℕ). part_by l w b ≡ Some n) same too.of_tap }

-- from each tap of the part a path leads to b
abbrev Leads : Layout → ℕ → Attachment → Type 0
Leads l part b = (a : Attachment) (w : Way) → IsOn l w a part → a ≢ b → (p : Path) × IsPath l a p b

direct : (l : Layout) (w : Way) (a b : Attachment) → IsStep l w a b → (p : Path) × IsPath l a p b
direct l w a b s = (record { begins = w; taps = b ∷ [] }, (s, refl))

lead_here : (l : Layout) → StandsOnSegments l → (w : Way) (b : Attachment) (part : ℕ) → IsOn l w b part → Leads l part b
lead_here l stands w b part on a v too ne =
    let on_a : IsOn l w a part = subst (λ (u : Way). IsOn l u a part) (one_kind l stands v w a b part too on) too in
    direct l w a b (step_on l w a b part on_a on ne)

pub other-other : (w : Way) → other_way (other_way w) ≡ w
other-other way.Cable = refl
other-other way.Repeater = refl

-- a path that comes from port f, begun at another tap of the port's part
begun_before : (l : Layout) (w : Way) (a f b : Attachment) (part : ℕ) → IsOn l w a part → IsOn l w f part → a ≢ b → a ≢ f → f ≢ b → (v : Way) (ts : List Attachment) → (v ≡ w) ⊎ (v ≡ other_way w) → IsWalk l v f ts b → (p : Path) × IsPath l a p b
begun_before l w a f b part on too ne apart far v ts (inr turned) walk =
    (record { begins = w; taps = f ∷ ts }, (step_on l w a f part on too apart, subst (λ (u : Way). IsWalk l u f ts b) turned walk))
begun_before l w a f b part on too ne apart far v [] (inl same) walk = absurd (far walk)
begun_before l w a f b part on too ne apart far v (t ∷ ts) (inl same) walk =
    let first : IsStep l w f t = subst (λ (u : Way). IsStep l u f t) same walk.0 in
    let after : IsWalk l (other_way w) t ts b = subst (λ (u : Way). IsWalk l (other_way u) t ts b) same walk.1 in
    elim (same_tap a t) [
      | inl e ↦ (record { begins = other_way w; taps = ts }, subst (λ (x : Attachment). IsWalk l (other_way w) x ts b) (sym e) after)
      | inr unlike ↦
          let from_a : part_by l w a ≡ Some first.part = on.of_tap ∙ ap (λ (n : ℕ). Some n) (one_number l w on.number too.number (on.is_part ∙ sym too.is_part)) ∙ sym too.of_tap ∙ first.from in
          let s : IsStep l w a t = record { different = unlike; part = first.part; from = from_a; to = first.to } in
          (record { begins = w; taps = t ∷ ts }, (s, after))
    ]

lead_over : (l : Layout) → StandsOnSegments l → (w : Way) (f b : Attachment) (part beyond : ℕ) → IsOn l w f part → IsOn l (other_way w) f beyond → Leads l beyond b → Leads l part b
lead_over l stands w f b part beyond on over leads a v at ne =
    let on_a : IsOn l w a part = subst (λ (u : Way). IsOn l u a part) (one_kind l stands v w a f part at on) at in
    elim (same_tap f b) [
      | inl e ↦ direct l w a b (step_on l w a b part on_a (subst (λ (x : Attachment). IsOn l w x part) e on) ne)
      | inr far ↦
          let path : (p : Path) × IsPath l f p b = leads f (other_way w) over far in
          elim (same_tap a f) [
            | inl e ↦ (path.0, subst (λ (x : Attachment). IsPath l x path.0 b) (sym e) path.1)
            | inr apart ↦ begun_before l w a f b part on_a on ne apart far path.0.begins path.0.taps (same_way path.0.begins w) path.1
          ]
    ]

-- where an edge of the network touches two parts a port stands on both
pub record IsPortBetween (l : Layout) (u v : ℕ) : Type 0 where
  pub port : Attachment
  pub by : Way
  pub on : IsOn l by port u
  pub over : IsOn l (other_way by) port v

pub record IsEdgeBetween (part : ℕ) (rows : List RepeaterLine) (u v : ℕ) : Type 0 where
  pub r : ℕ
  pub p : ℕ
  pub line : PortLine
  pub is : IsPortOf rows r p line
  pub links : GoesBetween (edge_at (part + r) line) u v

neighbours_ports : (part : ℕ) (lines : List PortLine) (rest : List Edge) (u v : ℕ) → AreNeighbours (map (edge_at part) lines ++ rest) u v → ((p : ℕ) × (line : PortLine) × (slice_get lines p ≡ Some line) × GoesBetween (edge_at part line) u v) ⊎ AreNeighbours rest u v
neighbours_ports part [] rest u v h = inr h
neighbours_ports part (x ∷ xs) rest u v h =
    elim h [
      | inl first ↦ inl (zero, x, refl, first)
      | inr k ↦ elim (neighbours_ports part xs rest u v k) [ inl (p, line, e, links) ↦ inl (suc p, line, e, links) | inr later ↦ inr later ]
    ]

neighbours_from : (part : ℕ) (rows : List RepeaterLine) (u v : ℕ) → AreNeighbours (edges_from part rows) u v → IsEdgeBetween part rows u v
neighbours_from part [] u v h = absurd h
neighbours_from part (x ∷ xs) u v h =
    elim (neighbours_ports part x.ports (edges_from (suc part) xs) u v h) [
      | inl (p, line, e, links) ↦
          let same : part ≡ part + 0 = omega arith in
          record { r = zero; p = p; line = line; is = record { row = x; of_row = refl; of_port = e }; links = subst (λ (n : ℕ). GoesBetween (edge_at n line) u v) same links }
      | inr later ↦
          let found : IsEdgeBetween (suc part) xs u v = neighbours_from (suc part) xs u v later in
          let same : suc part + found.r ≡ part + suc found.r = omega arith in
          record { r = suc found.r; p = found.p; line = found.line; is = record { row = found.is.row; of_row = found.is.of_row; of_port = found.is.of_port }; links = subst (λ (n : ℕ). GoesBetween (edge_at n found.line) u v) same found.links }
    ]

on_segment : (l : Layout) (r p : ℕ) (line : PortLine) → place l (Port r p) ≡ Some line → IsOn l way.Cable (Port r p) line.segment
on_segment l r p line h = record { number = line.segment; of_tap = rw h refl; is_part = refl }

on_repeater : (l : Layout) (r p : ℕ) (line : PortLine) → place l (Port r p) ≡ Some line → IsOn l way.Repeater (Port r p) (length l.segments + r)
on_repeater l r p line h = record { number = r; of_tap = rw h refl; is_part = refl }

port_between : (l : Layout) (u v : ℕ) → AreNeighbours (network_edges l) u v → IsPortBetween l u v
port_between l u v h =
    let found : IsEdgeBetween (length l.segments) l.repeaters u v = neighbours_from (length l.segments) l.repeaters u v h in
    let at : place l (Port found.r found.p) ≡ Some found.line = port_placed l found.r found.p found.line found.is in
    elim found.links [
      | inl (from, to) ↦ record {
        port = Port found.r found.p;
        by = way.Repeater;
        on = subst (λ (n : ℕ). IsOn l way.Repeater (Port found.r found.p) n) from (on_repeater l found.r found.p found.line at);
        over = subst (λ (n : ℕ). IsOn l way.Cable (Port found.r found.p) n) to (on_segment l found.r found.p found.line at);
      }
      | inr (from, to) ↦ record {
        port = Port found.r found.p;
        by = way.Cable;
        on = subst (λ (n : ℕ). IsOn l way.Cable (Port found.r found.p) n) to (on_segment l found.r found.p found.line at);
        over = subst (λ (n : ℕ). IsOn l way.Repeater (Port found.r found.p) n) from (on_repeater l found.r found.p found.line at);
      }
    ]

lead_along : (l : Layout) → StandsOnSegments l → (w : Way) (b : Attachment) {u v : ℕ} → EdgePath (network_edges l) u v → IsOn l w b v → Leads l u b
lead_along l stands w b {u} {v} stay on = lead_here l stands w b u on
lead_along l stands w b {u} {v} (go_on {b = m} touch rest) on =
    let port : IsPortBetween l u m = port_between l u m touch in
    lead_over l stands port.by port.port b u m port.on port.over (lead_along l stands w b rest on)

joined_by : (n : ℕ) (edges : List Edge) (a b c : ℕ) → is_joined n edges c a ≡ true → is_joined n edges c b ≡ true → is_joined n edges a b ≡ true
unfolding is_joined
joined_by n edges a b c h k =
    let ca : get_or (colours n edges) c 0 ≡ get_or (colours n edges) a 0 = (Decides-eqb (get_or (colours n edges) c 0) (get_or (colours n edges) a 0)).0 h in
    let cb : get_or (colours n edges) c 0 ≡ get_or (colours n edges) b 0 = (Decides-eqb (get_or (colours n edges) c 0) (get_or (colours n edges) b 0)).0 k in
    (Decides-eqb (get_or (colours n edges) a 0) (get_or (colours n edges) b 0)).1 (sym ca ∙ cb)

-- a path of edges between the segments of two taps leads from tap to tap
pub path_over_edges : (l : Layout) → StandsOnSegments l → (a b : Attachment) (p q : PortLine) → place l a ≡ Some p → place l b ≡ Some q → a ≢ b → EdgePath (network_edges l) p.segment q.segment → (path : Path) × IsPath l a path b
path_over_edges l stands a b p q pa qb ne joins =
    let on_a : IsOn l way.Cable a p.segment = record { number = p.segment; of_tap = rw pa refl; is_part = refl } in
    let on_b : IsOn l way.Cable b q.segment = record { number = q.segment; of_tap = rw qb refl; is_part = refl } in
    lead_along l stands way.Cable b joins on_b a way.Cable on_a ne

pub some_path : (l : Layout) → StandsOnSegments l → IsTree l → (a b : Attachment) → IsTap l a → IsTap l b → a ≢ b → (p : Path) × IsPath l a p b
some_path l stands tree a b (p, pa) (q, qb) ne =
    let low_p : p.segment < length l.segments = stands a p pa in
    let low_q : q.segment < length l.segments = stands b q qb in
    let both : is_joined (parts_of l) (network_edges l) p.segment q.segment ≡ true = joined_by (parts_of l) (network_edges l) p.segment q.segment 0 (tree.joined p.segment low_p) (tree.joined q.segment low_q) in
    let joins : EdgePath (network_edges l) p.segment q.segment = joined_from (parts_of l) (network_edges l) p.segment q.segment (network_within l stands) (omega arith) (omega arith) both in
    path_over_edges l stands a b p q pa qb ne joins
