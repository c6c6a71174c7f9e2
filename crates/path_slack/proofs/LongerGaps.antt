-- A layout with a longer piece of cable: its taps have the same segments and repeaters, and where it keeps the bounds
-- it is sound.
use Rattle.std.proofs.Common.{◌≡◌, ◌≢◌, refl, sym, ◌∙◌, ap, subst, ℕ, suc, ◌+◌, ◌<◌, ◌≤◌, Bool, true, false, eqb, leb, cond, List, [], ◌∷◌, ◌++◌, map, length, get_or, Option, None, Some, slice_get, All, arith}
use Rattle.std.specs.Option.{option_map, option_and_then, unwrap_or}
use Rattle.std.specs.List.{flat_map}
use Rattle.std.specs.Prelude.{◌&&◌}
use Rattle.std.proofs.lemmas.Bool.{leb-true, leb-false}
use Rattle.std.proofs.lemmas.List.{length-map, map-append, get_or-map}
use Rattle.std.proofs.lemmas.List.Elements.{All-map}
use Rattle.std.proofs.lemmas.Option.{same_Some, slice_get-map, slice_get-get_or}
use Rattle.mac_parameters.specs.Parameters.{greatest_place, greatest_delay}
use Rattle.layout.specs.declared.edge.Edge.{Edge}
use Rattle.layout.specs.declared.lines.Layout.{Layout}
use Rattle.layout.specs.declared.lines.PortLine.{PortLine}
use Rattle.layout.specs.declared.lines.RepeaterLine.{RepeaterLine}
use Rattle.layout.specs.declared.lines.StationLine.{StationLine}
use Rattle.layout.specs.declared.ways.Attachment.{Attachment}
use Rattle.layout.specs.declared.ways.Attachment.TheVariants.{Station, Port}
use Rattle.layout.specs.declared.ways.Way.{Way}
use Rattle.layout.specs.declared.ways.Way.TheVariants as way
use Rattle.layout.specs.Networks.{edge_at, edges_from}
use Rattle.layout.specs.Paths.{place, part_by, delay_of}
use Rattle.layout.specs.Sound.{IsSound, IsSoundStation, IsSoundPort, IsSoundRepeater, AreDifferent}
use Rattle.layout.specs.Taps.{tap_of, taps_of}
use Rattle.layout.proofs.Cuts.{mapped}
use Rattle.layout.proofs.Sides.{IsPortOf, port_of, port_placed}
use Rattle.layout.proofs.SoundTaps.{at_all, sound_repeater, delay_low}
use Rattle.path_slack.specs.Lengthened.{moved_place, moved_station, moved_port, moved_repeater, lengthened_gap, KeepsBounds}

moved_tap : (segment high x : ℕ) (o : Option StationLine) → option_map tap_of (option_map (moved_station segment high x) o) ≡ option_map (moved_port segment high x) (option_map tap_of o)
moved_tap segment high x None = refl
moved_tap segment high x (Some s) = refl

moved_line : (segment high x p : ℕ) (o : Option RepeaterLine) → option_and_then (λ (row : RepeaterLine). slice_get row.ports p) (option_map (moved_repeater segment high x) o) ≡ option_map (moved_port segment high x) (option_and_then (λ (row : RepeaterLine). slice_get row.ports p) o)
moved_line segment high x p None = refl
moved_line segment high x p (Some row) = slice_get-map (moved_port segment high x) row.ports p

-- where a tap comes to stand
pub place_moved : (l : Layout) (segment high x : ℕ) (t : Attachment) → place (lengthened_gap l segment high x) t ≡ option_map (moved_port segment high x) (place l t)
unfolding lengthened_gap
place_moved l segment high x (Station k) =
    ap (option_map tap_of) (slice_get-map (moved_station segment high x) l.stations k) ∙ moved_tap segment high x (slice_get l.stations k)
place_moved l segment high x (Port r p) =
    ap (option_and_then (λ (row : RepeaterLine). slice_get row.ports p)) (slice_get-map (moved_repeater segment high x) l.repeaters r) ∙ moved_line segment high x p (slice_get l.repeaters r)

same_segment : (segment high x : ℕ) (o : Option PortLine) → option_map (λ (p : PortLine). p.segment) (option_map (moved_port segment high x) o) ≡ option_map (λ (p : PortLine). p.segment) o
same_segment segment high x None = refl
same_segment segment high x (Some p) = refl

same_row : (segment high x r : ℕ) (o : Option PortLine) → option_map (λ (p : PortLine). r) (option_map (moved_port segment high x) o) ≡ option_map (λ (p : PortLine). r) o
same_row segment high x r None = refl
same_row segment high x r (Some p) = refl

pub same_part : (l : Layout) (segment high x : ℕ) (w : Way) (t : Attachment) → part_by (lengthened_gap l segment high x) w t ≡ part_by l w t
same_part l segment high x way.Cable t =
    ap (option_map (λ (p : PortLine). p.segment)) (place_moved l segment high x t) ∙ same_segment segment high x (place l t)
same_part l segment high x way.Repeater (Station k) = refl
same_part l segment high x way.Repeater (Port r p) =
    ap (option_map (λ (q : PortLine). r)) (place_moved l segment high x (Port r p)) ∙ same_row segment high x r (place l (Port r p))

moved_delay : (segment high x : ℕ) (o : Option RepeaterLine) → unwrap_or (option_map (λ (row : RepeaterLine). row.delay) (option_map (moved_repeater segment high x) o)) 0 ≡ unwrap_or (option_map (λ (row : RepeaterLine). row.delay) o) 0
moved_delay segment high x None = refl
moved_delay segment high x (Some row) = refl

pub same_delay : (l : Layout) (segment high x : ℕ) (t : Attachment) → delay_of (lengthened_gap l segment high x) t ≡ delay_of l t
unfolding lengthened_gap
same_delay l segment high x (Station k) = refl
same_delay l segment high x (Port r p) =
    ap (λ (o : Option RepeaterLine). unwrap_or (option_map (λ (row : RepeaterLine). row.delay) o) 0) (slice_get-map (moved_repeater segment high x) l.repeaters r) ∙ moved_delay segment high x (slice_get l.repeaters r)

-- what a layout with moved taps keeps
station_sound : (l : Layout) (segment high x : ℕ) → IsSound l → KeepsBounds (lengthened_gap l segment high x) → (k : ℕ) (s : StationLine) → slice_get l.stations k ≡ Some s → IsSoundStation l.format (length l.segments) (moved_station segment high x s)
station_sound l segment high x sound keeps k s h =
    let is : IsSoundStation l.format (length l.segments) s = at_all (IsSoundStation l.format (length l.segments)) l.stations k s sound.stations h in
    let at : place (lengthened_gap l segment high x) (Station k) ≡ Some (moved_port segment high x (tap_of s)) = place_moved l segment high x (Station k) ∙ ap (λ (o : Option StationLine). option_map (moved_port segment high x) (option_map tap_of o)) h in
    record { name = is.name; segment = is.segment; at = keeps.places (Station k) (moved_port segment high x (tap_of s)) at; load = is.load; lose = is.lose; lose_of_one = is.lose_of_one }

port_sound : (l : Layout) (segment high x : ℕ) → IsSound l → KeepsBounds (lengthened_gap l segment high x) → (r k : ℕ) (row : RepeaterLine) (p : PortLine) → slice_get l.repeaters r ≡ Some row → slice_get row.ports k ≡ Some p → IsSoundPort (length l.segments) (moved_port segment high x p)
port_sound l segment high x sound keeps r k row p h g =
    let is : IsSoundPort (length l.segments) p = at_all (IsSoundPort (length l.segments)) row.ports k p (sound_repeater l sound r row h).ports g in
    let here : place l (Port r k) ≡ Some p = port_placed l r k p (record { row = row; of_row = h; of_port = g }) in
    let at : place (lengthened_gap l segment high x) (Port r k) ≡ Some (moved_port segment high x p) = place_moved l segment high x (Port r k) ∙ ap (option_map (moved_port segment high x)) here in
    record { segment = is.segment; at = keeps.places (Port r k) (moved_port segment high x p) at }

repeater_sound : (l : Layout) (segment high x : ℕ) → IsSound l → KeepsBounds (lengthened_gap l segment high x) → (r : ℕ) (row : RepeaterLine) → slice_get l.repeaters r ≡ Some row → IsSoundRepeater (length l.segments) (moved_repeater segment high x row)
repeater_sound l segment high x sound keeps r row h =
    let is : IsSoundRepeater (length l.segments) row = sound_repeater l sound r row h in
    let same : length (map (moved_port segment high x) row.ports) ≡ length row.ports = length-map row.ports (moved_port segment high x) in
    let least = is.ports_least in
    let most = is.ports_most in
    record {
      name = is.name;
      delay_least = is.delay_least;
      delay_most = is.delay_most;
      ports_least = rw same least;
      ports_most = rw same most;
      ports = All-map (IsSoundPort (length l.segments)) (moved_port segment high x) row.ports
          (λ k d low. port_sound l segment high x sound keeps r k row (get_or row.ports k d) h (slice_get-get_or row.ports k d low));
    }

names_same : (segment high x : ℕ) (ss : List StationLine) → map (λ (s : StationLine). s.name) (map (moved_station segment high x) ss) ≡ map (λ (s : StationLine). s.name) ss
names_same segment high x [] = refl
names_same segment high x (s ∷ ss) = ap (λ (ns : List (List ℕ)). s.name ∷ ns) (names_same segment high x ss)

repeaters_same : (segment high x : ℕ) (rs : List RepeaterLine) → map (λ (r : RepeaterLine). r.name) (map (moved_repeater segment high x) rs) ≡ map (λ (r : RepeaterLine). r.name) rs
repeaters_same segment high x [] = refl
repeaters_same segment high x (r ∷ rs) = ap (λ (ns : List (List ℕ)). r.name ∷ ns) (repeaters_same segment high x rs)

ports_edges : (segment high x part : ℕ) (ps : List PortLine) → map (edge_at part) (map (moved_port segment high x) ps) ≡ map (edge_at part) ps
ports_edges segment high x part [] = refl
ports_edges segment high x part (p ∷ ps) = ap (λ (es : List Edge). edge_at part p ∷ es) (ports_edges segment high x part ps)

edges_same : (segment high x part : ℕ) (rs : List RepeaterLine) → edges_from part (map (moved_repeater segment high x) rs) ≡ edges_from part rs
edges_same segment high x part [] = refl
edges_same segment high x part (r ∷ rs) =
    ap (λ (es : List Edge). es ++ edges_from (suc part) (map (moved_repeater segment high x) rs)) (ports_edges segment high x part r.ports)
    ∙ ap (λ (es : List Edge). map (edge_at part) r.ports ++ es) (edges_same segment high x (suc part) rs)

stations_taps : (segment high x : ℕ) (ss : List StationLine) → map tap_of (map (moved_station segment high x) ss) ≡ map (moved_port segment high x) (map tap_of ss)
stations_taps segment high x [] = refl
stations_taps segment high x (s ∷ ss) = ap (λ (ps : List PortLine). moved_port segment high x (tap_of s) ∷ ps) (stations_taps segment high x ss)

repeaters_taps : (segment high x : ℕ) (rs : List RepeaterLine) → flat_map (λ (r : RepeaterLine). r.ports) (map (moved_repeater segment high x) rs) ≡ map (moved_port segment high x) (flat_map (λ (r : RepeaterLine). r.ports) rs)
repeaters_taps segment high x [] = refl
repeaters_taps segment high x (r ∷ rs) =
    ap (λ (ps : List PortLine). map (moved_port segment high x) r.ports ++ ps) (repeaters_taps segment high x rs)
    ∙ sym (map-append (moved_port segment high x) r.ports (flat_map (λ (r : RepeaterLine). r.ports) rs))

taps_moved : (segment high x : ℕ) (ss : List StationLine) (rs : List RepeaterLine) → map tap_of (map (moved_station segment high x) ss) ++ flat_map (λ (r : RepeaterLine). r.ports) (map (moved_repeater segment high x) rs) ≡ map (moved_port segment high x) (map tap_of ss ++ flat_map (λ (r : RepeaterLine). r.ports) rs)
taps_moved segment high x ss rs =
    ap (λ (ps : List PortLine). ps ++ flat_map (λ (r : RepeaterLine). r.ports) (map (moved_repeater segment high x) rs)) (stations_taps segment high x ss)
    ∙ ap (λ (ps : List PortLine). map (moved_port segment high x) (map tap_of ss) ++ ps) (repeaters_taps segment high x rs)
    ∙ sym (map-append (moved_port segment high x) (map tap_of ss) (flat_map (λ (r : RepeaterLine). r.ports) rs))

-- different places of a segment stay different
stay_on : (ta tb : Bool) (high x a b : ℕ) → leb high a ≡ ta → leb high b ≡ tb → cond ta (a + x) a ≡ cond tb (b + x) b → a ≡ b
stay_on true true high x a b ha hb e = omega arith
stay_on true false high x a b ha hb e =
    let up : high ≤ a = leb-true high a ha in
    let down : b < high = leb-false high b hb in
    omega arith
stay_on false true high x a b ha hb e =
    let up : high ≤ b = leb-true high b hb in
    let down : a < high = leb-false high a ha in
    omega arith
stay_on false false high x a b ha hb e = e

stay_apart : (on : Bool) (high x a b : ℕ) → cond (on && leb high a) (a + x) a ≡ cond (on && leb high b) (b + x) b → a ≡ b
stay_apart false high x a b e = e
stay_apart true high x a b e = stay_on (leb high a) (leb high b) high x a b refl refl e

same_port : (p q : PortLine) → p.segment ≡ q.segment → p.at ≡ q.at → p ≡ q
same_port p q s a =
    ap (λ (n : ℕ). let x : PortLine = record { segment = n; at = p.at } in x) s ∙ ap (λ (n : ℕ). let x : PortLine = record { segment = q.segment; at = n } in x) a

moved_apart : (segment high x : ℕ) (p q : PortLine) → p ≢ q → moved_port segment high x p ≢ moved_port segment high x q
moved_apart segment high x p q ne = λ e.
    let same : p.segment ≡ q.segment = ap (λ (y : PortLine). y.segment) e in
    let at : moved_place segment high x p.segment p.at ≡ moved_place segment high x q.segment q.at = ap (λ (y : PortLine). y.at) e in
    let on : moved_place segment high x q.segment p.at ≡ moved_place segment high x q.segment q.at = subst (λ (n : ℕ). moved_place segment high x n p.at ≡ moved_place segment high x q.segment q.at) same at in
    ne (same_port p q same (stay_apart (eqb q.segment segment) high x p.at q.at on))

taps_apart : (segment high x : ℕ) (ps : List PortLine) → AreDifferent ps → AreDifferent (map (moved_port segment high x) ps)
taps_apart segment high x ps apart = λ i j d low within.
    let count : length (map (moved_port segment high x) ps) ≡ length ps = length-map ps (moved_port segment high x) in
    let first : get_or (map (moved_port segment high x) ps) i d ≡ moved_port segment high x (get_or ps i d) = get_or-map (moved_port segment high x) ps i d d (omega arith) in
    let second : get_or (map (moved_port segment high x) ps) j d ≡ moved_port segment high x (get_or ps j d) = get_or-map (moved_port segment high x) ps j d d (omega arith) in
    λ e. moved_apart segment high x (get_or ps i d) (get_or ps j d) (apart i j d low (omega arith)) (sym first ∙ e ∙ second)

pub gap_sound : (l : Layout) (segment high x : ℕ) → IsSound l → KeepsBounds (lengthened_gap l segment high x) → IsSound (lengthened_gap l segment high x)
unfolding lengthened_gap
gap_sound l segment high x sound keeps =
    let count : length (map (moved_station segment high x) l.stations) ≡ length l.stations = length-map l.stations (moved_station segment high x) in
    let rows : length (map (moved_repeater segment high x) l.repeaters) ≡ length l.repeaters = length-map l.repeaters (moved_repeater segment high x) in
    let edges : edges_from (length l.segments) (map (moved_repeater segment high x) l.repeaters) ≡ edges_from (length l.segments) l.repeaters = edges_same segment high x (length l.segments) l.repeaters in
    let bits = sound.device_bits in
    let stations = sound.stations_most in
    let repeaters = sound.repeaters_most in
    let sends = sound.sends in
    let loops = sound.tree.loops in
    let joined = sound.tree.joined in
    record {
      format = sound.format;
      seed = sound.seed;
      bits_least = sound.bits_least;
      bits_most = sound.bits_most;
      device_bits = rw (count, rows) bits;
      segments_least = sound.segments_least;
      segments_most = sound.segments_most;
      stations_most = rw count stations;
      repeaters_most = rw rows repeaters;
      sends_most = sound.sends_most;
      segments = sound.segments;
      stations = All-map (IsSoundStation l.format (length l.segments)) (moved_station segment high x) l.stations
          (λ k d low. station_sound l segment high x sound keeps k (get_or l.stations k d) (slice_get-get_or l.stations k d low));
      repeaters = All-map (IsSoundRepeater (length l.segments)) (moved_repeater segment high x) l.repeaters
          (λ k d low. repeater_sound l segment high x sound keeps k (get_or l.repeaters k d) (slice_get-get_or l.repeaters k d low));
      sends = rw count sends;
      segment_names = sound.segment_names;
      device_names = subst AreDifferent (sym (ap (λ (ns : List (List ℕ)). ns ++ map (λ (r : RepeaterLine). r.name) (map (moved_repeater segment high x) l.repeaters)) (names_same segment high x l.stations) ∙ ap (λ (ns : List (List ℕ)). map (λ (s : StationLine). s.name) l.stations ++ ns) (repeaters_same segment high x l.repeaters))) sound.device_names;
      taps = subst AreDifferent (sym (taps_moved segment high x l.stations l.repeaters)) (taps_apart segment high x (taps_of l) sound.taps);
      tree = record { loops = rw (rows, edges) loops; joined = rw (rows, edges) joined };
    }

-- where the bounds are kept the places are
pub stations_fit : (l : Layout) (segment high x : ℕ) → KeepsBounds (lengthened_gap l segment high x) → All (λ (s : StationLine). moved_place segment high x s.segment s.at ≤ greatest_place) l.stations
stations_fit l segment high x keeps = λ k d low.
    let s : StationLine = get_or l.stations k d in
    let here : place l (Station k) ≡ Some (tap_of s) = ap (option_map tap_of) (slice_get-get_or l.stations k d low) in
    keeps.places (Station k) (moved_port segment high x (tap_of s)) (place_moved l segment high x (Station k) ∙ ap (option_map (moved_port segment high x)) here)

pub ports_fit : (l : Layout) (segment high x : ℕ) → KeepsBounds (lengthened_gap l segment high x) → All (λ (r : RepeaterLine). All (λ (p : PortLine). moved_place segment high x p.segment p.at ≤ greatest_place) r.ports) l.repeaters
ports_fit l segment high x keeps = λ r d low k e within.
    let row : RepeaterLine = get_or l.repeaters r d in
    let p : PortLine = get_or row.ports k e in
    let here : place l (Port r k) ≡ Some p = port_placed l r k p (record { row = row; of_row = slice_get-get_or l.repeaters r d low; of_port = slice_get-get_or row.ports k e within }) in
    keeps.places (Port r k) (moved_port segment high x p) (place_moved l segment high x (Port r k) ∙ ap (option_map (moved_port segment high x)) here)

-- and where the places are, the bounds are kept
station_kept : (l : Layout) (segment high x : ℕ) → All (λ (s : StationLine). moved_place segment high x s.segment s.at ≤ greatest_place) l.stations → (k : ℕ) (p : PortLine) → place l (Station k) ≡ Some p → (moved_port segment high x p).at ≤ greatest_place
station_kept l segment high x all k p h =
    let found : (s : StationLine) × (slice_get l.stations k ≡ Some s) = mapped tap_of (slice_get l.stations k) p h in
    let same : tap_of found.0 ≡ p = same_Some (tap_of found.0) p (sym (ap (option_map tap_of) found.1) ∙ h) in
    subst (λ (q : PortLine). (moved_port segment high x q).at ≤ greatest_place) same (at_all (λ (s : StationLine). moved_place segment high x s.segment s.at ≤ greatest_place) l.stations k found.0 all found.1)

port_kept : (l : Layout) (segment high x : ℕ) → All (λ (r : RepeaterLine). All (λ (p : PortLine). moved_place segment high x p.segment p.at ≤ greatest_place) r.ports) l.repeaters → (r k : ℕ) (p : PortLine) → place l (Port r k) ≡ Some p → (moved_port segment high x p).at ≤ greatest_place
port_kept l segment high x all r k p h =
    let found : IsPortOf l.repeaters r k p = port_of l r k p h in
    at_all (λ (q : PortLine). moved_place segment high x q.segment q.at ≤ greatest_place) found.row.ports k p
    (at_all (λ (row : RepeaterLine). All (λ (q : PortLine). moved_place segment high x q.segment q.at ≤ greatest_place) row.ports) l.repeaters r found.row all found.of_row) found.of_port

tap_kept : (l : Layout) (segment high x : ℕ) → All (λ (s : StationLine). moved_place segment high x s.segment s.at ≤ greatest_place) l.stations → All (λ (r : RepeaterLine). All (λ (p : PortLine). moved_place segment high x p.segment p.at ≤ greatest_place) r.ports) l.repeaters → (t : Attachment) (p : PortLine) → place l t ≡ Some p → (moved_port segment high x p).at ≤ greatest_place
tap_kept l segment high x stations repeaters (Station k) p h = station_kept l segment high x stations k p h
tap_kept l segment high x stations repeaters (Port r k) p h = port_kept l segment high x repeaters r k p h

pub all_kept : (l : Layout) (segment high x : ℕ) → IsSound l → All (λ (s : StationLine). moved_place segment high x s.segment s.at ≤ greatest_place) l.stations → All (λ (r : RepeaterLine). All (λ (p : PortLine). moved_place segment high x p.segment p.at ≤ greatest_place) r.ports) l.repeaters → KeepsBounds (lengthened_gap l segment high x)
all_kept l segment high x sound stations repeaters = record {
  places = λ t p h.
      let moved : option_map (moved_port segment high x) (place l t) ≡ Some p = sym (place_moved l segment high x t) ∙ h in
      let old : (q : PortLine) × (place l t ≡ Some q) = mapped (moved_port segment high x) (place l t) p moved in
      subst (λ (q : PortLine). q.at ≤ greatest_place) (same_Some (moved_port segment high x old.0) p (sym (ap (option_map (moved_port segment high x)) old.1) ∙ moved)) (tap_kept l segment high x stations repeaters t old.0 old.1);
  delays = λ t. subst (λ (n : ℕ). n ≤ greatest_delay) (sym (same_delay l segment high x t)) (delay_low l sound t);
}
