-- A layout with a slower repeater: its taps stand where they stood, and where it keeps the bounds it is sound.
use Rattle.std.proofs.Common.{◌≡◌, ◌≢◌, refl, sym, ◌∙◌, ap, subst, ℕ, zero, suc, ◌+◌, ◌≤◌, Bool, true, false, eqb, cond, List, [], ◌∷◌, ◌++◌, map, length, get_or, Option, None, Some, slice_get, All, arith}
use Rattle.std.specs.Option.{option_map, option_and_then, unwrap_or}
use Rattle.std.specs.List.{flat_map}
use Rattle.std.proofs.lemmas.Bool.{eq-eqb, ne_eqb}
use Rattle.std.proofs.lemmas.Option.{same_Some, slice_get-get_or}
use Rattle.mac_parameters.specs.Parameters.{greatest_delay}
use Rattle.layout.specs.declared.edge.Edge.{Edge}
use Rattle.layout.specs.declared.lines.Layout.{Layout}
use Rattle.layout.specs.declared.lines.PortLine.{PortLine}
use Rattle.layout.specs.declared.lines.RepeaterLine.{RepeaterLine}
use Rattle.layout.specs.declared.ways.Attachment.{Attachment}
use Rattle.layout.specs.declared.ways.Attachment.TheVariants.{Station, Port}
use Rattle.layout.specs.declared.ways.Way.{Way}
use Rattle.layout.specs.declared.ways.Way.TheVariants as way
use Rattle.layout.specs.Networks.{edge_at, edges_from}
use Rattle.layout.specs.Paths.{place, part_by, delay_of}
use Rattle.layout.specs.declared.lines.StationLine.{StationLine}
use Rattle.layout.specs.Taps.{tap_of}
use Rattle.mac_parameters.specs.Parameters.{least_delay, least_ports, most_ports}
use Rattle.layout.specs.Sound.{IsName, IsSound, IsSoundPort, IsSoundRepeater, AreDifferent}
use Rattle.layout.proofs.Cuts.{mapped}
use Rattle.layout.proofs.SoundTaps.{sound_repeater}
use Rattle.path_slack.specs.Lengthened.{slowed, slowed_from, lengthened_delay, KeepsBounds}

-- one of the repeaters
abbrev pub slowed_if : Bool → ℕ → RepeaterLine → RepeaterLine
slowed_if b x r = cond b (slowed x r) r

pub slowed_get : (k n x : ℕ) (rs : List RepeaterLine) (i : ℕ) → slice_get (slowed_from k n x rs) i ≡ option_map (slowed_if (eqb (k + i) n) x) (slice_get rs i)
slowed_get k n x [] i = refl
slowed_get k n x (r ∷ rs) zero = let e : k + 0 ≡ k = omega arith in rw e refl
slowed_get k n x (r ∷ rs) (suc i) =
    let e : k + suc i ≡ k + 1 + i = omega arith in
    rw e (slowed_get (k + 1) n x rs i)

slowed_ports : (b : Bool) (x : ℕ) (r : RepeaterLine) → (slowed_if b x r).ports ≡ r.ports
slowed_ports true x r = refl
slowed_ports false x r = refl

slowed_name : (b : Bool) (x : ℕ) (r : RepeaterLine) → (slowed_if b x r).name ≡ r.name
slowed_name true x r = refl
slowed_name false x r = refl

slowed_line : (b : Bool) (x p : ℕ) (o : Option RepeaterLine) → option_and_then (λ (row : RepeaterLine). slice_get row.ports p) (option_map (slowed_if b x) o) ≡ option_and_then (λ (row : RepeaterLine). slice_get row.ports p) o
slowed_line b x p None = refl
slowed_line b x p (Some row) = ap (λ (ps : List PortLine). slice_get ps p) (slowed_ports b x row)

-- the taps stand where they stood
pub place_kept : (l : Layout) (n x : ℕ) (t : Attachment) → place (lengthened_delay l n x) t ≡ place l t
unfolding lengthened_delay
place_kept l n x (Station k) = refl
place_kept l n x (Port r p) =
    ap (option_and_then (λ (row : RepeaterLine). slice_get row.ports p)) (slowed_get 0 n x l.repeaters r) ∙ slowed_line (eqb (0 + r) n) x p (slice_get l.repeaters r)

pub same_part : (l : Layout) (n x : ℕ) (w : Way) (t : Attachment) → part_by (lengthened_delay l n x) w t ≡ part_by l w t
same_part l n x way.Cable t = ap (option_map (λ (p : PortLine). p.segment)) (place_kept l n x t)
same_part l n x way.Repeater (Station k) = refl
same_part l n x way.Repeater (Port r p) = ap (option_map (λ (q : PortLine). r)) (place_kept l n x (Port r p))

-- the delay of a repeater that is another one, and of the one
other_delay : (b : Bool) (x : ℕ) (o : Option RepeaterLine) → b ≡ false → unwrap_or (option_map (λ (row : RepeaterLine). row.delay) (option_map (slowed_if b x) o)) 0 ≡ unwrap_or (option_map (λ (row : RepeaterLine). row.delay) o) 0
other_delay b x None e = refl
other_delay b x (Some row) e = rw e refl

own_delay : (b : Bool) (x : ℕ) (o : Option RepeaterLine) (row : RepeaterLine) → b ≡ true → o ≡ Some row → unwrap_or (option_map (λ (row : RepeaterLine). row.delay) (option_map (slowed_if b x) o)) 0 ≡ unwrap_or (option_map (λ (row : RepeaterLine). row.delay) o) 0 + x
own_delay b x o row e is = rw (is, e) refl

pub delay_kept : (l : Layout) (n x r p : ℕ) → r ≢ n → delay_of (lengthened_delay l n x) (Port r p) ≡ delay_of l (Port r p)
unfolding lengthened_delay
delay_kept l n x r p ne =
    ap (λ (o : Option RepeaterLine). unwrap_or (option_map (λ (row : RepeaterLine). row.delay) o) 0) (slowed_get 0 n x l.repeaters r)
    ∙ other_delay (eqb (0 + r) n) x (slice_get l.repeaters r) (ne_eqb (0 + r) n (λ e. ne (let z : 0 + r ≡ r = omega arith in sym z ∙ e)))

pub delay_grown : (l : Layout) (n x p : ℕ) (row : RepeaterLine) → slice_get l.repeaters n ≡ Some row → delay_of (lengthened_delay l n x) (Port n p) ≡ delay_of l (Port n p) + x
unfolding lengthened_delay
delay_grown l n x p row is =
    ap (λ (o : Option RepeaterLine). unwrap_or (option_map (λ (row : RepeaterLine). row.delay) o) 0) (slowed_get 0 n x l.repeaters n)
    ∙ own_delay (eqb (0 + n) n) x (slice_get l.repeaters n) row (eq-eqb (0 + n) n (omega arith)) is

count_kept : (k n x : ℕ) (rs : List RepeaterLine) → length (slowed_from k n x rs) ≡ length rs
count_kept k n x [] = refl
count_kept k n x (r ∷ rs) = ap (λ (m : ℕ). suc m) (count_kept (k + 1) n x rs)

names_kept : (k n x : ℕ) (rs : List RepeaterLine) → map (λ (r : RepeaterLine). r.name) (slowed_from k n x rs) ≡ map (λ (r : RepeaterLine). r.name) rs
names_kept k n x [] = refl
names_kept k n x (r ∷ rs) =
    ap (λ (name : List ℕ). name ∷ map (λ (r : RepeaterLine). r.name) (slowed_from (k + 1) n x rs)) (slowed_name (eqb k n) x r)
    ∙ ap (λ (ns : List (List ℕ)). r.name ∷ ns) (names_kept (k + 1) n x rs)

edges_kept : (k n x part : ℕ) (rs : List RepeaterLine) → edges_from part (slowed_from k n x rs) ≡ edges_from part rs
edges_kept k n x part [] = refl
edges_kept k n x part (r ∷ rs) =
    ap (λ (ps : List PortLine). map (edge_at part) ps ++ edges_from (suc part) (slowed_from (k + 1) n x rs)) (slowed_ports (eqb k n) x r)
    ∙ ap (λ (es : List Edge). map (edge_at part) r.ports ++ es) (edges_kept (k + 1) n x (suc part) rs)

taps_kept : (k n x : ℕ) (rs : List RepeaterLine) → flat_map (λ (r : RepeaterLine). r.ports) (slowed_from k n x rs) ≡ flat_map (λ (r : RepeaterLine). r.ports) rs
taps_kept k n x [] = refl
taps_kept k n x (r ∷ rs) =
    ap (λ (ps : List PortLine). ps ++ flat_map (λ (r : RepeaterLine). r.ports) (slowed_from (k + 1) n x rs)) (slowed_ports (eqb k n) x r)
    ∙ ap (λ (ps : List PortLine). r.ports ++ ps) (taps_kept (k + 1) n x rs)

bounded : (l : Layout) (n x : ℕ) → KeepsBounds (lengthened_delay l n x) → (r : ℕ) (row : RepeaterLine) → slice_get (slowed_from 0 n x l.repeaters) r ≡ Some row → row.delay ≤ greatest_delay
unfolding lengthened_delay
bounded l n x keeps r row h = subst (λ (o : Option RepeaterLine). unwrap_or (option_map (λ (row : RepeaterLine). row.delay) o) 0 ≤ greatest_delay) h (keeps.delays (Port r 0))

grown_least : (b : Bool) (x : ℕ) (r : RepeaterLine) → r.delay ≤ (slowed_if b x r).delay
grown_least true x r = omega arith
grown_least false x r = omega arith

repeater_sound : (l : Layout) (n x : ℕ) → IsSound l → KeepsBounds (lengthened_delay l n x) → (r : ℕ) (row : RepeaterLine) → slice_get (slowed_from 0 n x l.repeaters) r ≡ Some row → IsSoundRepeater (length l.segments) row
repeater_sound l n x sound keeps r row h =
    let before : (old : RepeaterLine) × (slice_get l.repeaters r ≡ Some old) = mapped (slowed_if (eqb (0 + r) n) x) (slice_get l.repeaters r) row (sym (slowed_get 0 n x l.repeaters r) ∙ h) in
    let old : RepeaterLine = before.0 in
    let is : IsSoundRepeater (length l.segments) old = sound_repeater l sound r old before.1 in
    let b : Bool = eqb (0 + r) n in
    let same : slowed_if b x old ≡ row = same_Some (slowed_if b x old) row (sym (ap (option_map (slowed_if b x)) before.1) ∙ sym (slowed_get 0 n x l.repeaters r) ∙ h) in
    let low : row.delay ≤ greatest_delay = bounded l n x keeps r row h in
    let ports : old.ports ≡ row.ports = sym (slowed_ports b x old) ∙ ap (λ (y : RepeaterLine). y.ports) same in
    let name : old.name ≡ row.name = sym (slowed_name b x old) ∙ ap (λ (y : RepeaterLine). y.name) same in
    let least : least_delay ≤ old.delay = is.delay_least in
    let more : old.delay ≤ row.delay = subst (λ (y : RepeaterLine). old.delay ≤ y.delay) same (grown_least b x old) in
    record {
      name = subst IsName name is.name;
      delay_least = omega arith;
      delay_most = low;
      ports_least = subst (λ (ps : List PortLine). least_ports ≤ length ps) ports is.ports_least;
      ports_most = subst (λ (ps : List PortLine). length ps ≤ most_ports) ports is.ports_most;
      ports = subst (All (IsSoundPort (length l.segments))) ports is.ports;
    }

pub delay_sound : (l : Layout) (n x : ℕ) → IsSound l → KeepsBounds (lengthened_delay l n x) → IsSound (lengthened_delay l n x)
unfolding lengthened_delay
delay_sound l n x sound keeps =
    let rows : length (slowed_from 0 n x l.repeaters) ≡ length l.repeaters = count_kept 0 n x l.repeaters in
    let edges : edges_from (length l.segments) (slowed_from 0 n x l.repeaters) ≡ edges_from (length l.segments) l.repeaters = edges_kept 0 n x (length l.segments) l.repeaters in
    let bits = sound.device_bits in
    let repeaters = sound.repeaters_most in
    let loops = sound.tree.loops in
    let joined = sound.tree.joined in
    record {
      format = sound.format;
      seed = sound.seed;
      bits_least = sound.bits_least;
      bits_most = sound.bits_most;
      device_bits = rw rows bits;
      segments_least = sound.segments_least;
      segments_most = sound.segments_most;
      stations_most = sound.stations_most;
      repeaters_most = rw rows repeaters;
      sends_most = sound.sends_most;
      segments = sound.segments;
      stations = sound.stations;
      repeaters = λ r d low. repeater_sound l n x sound keeps r (get_or (slowed_from 0 n x l.repeaters) r d) (slice_get-get_or (slowed_from 0 n x l.repeaters) r d low);
      sends = sound.sends;
      segment_names = sound.segment_names;
      device_names = subst AreDifferent (sym (ap (λ (ns : List (List ℕ)). map (λ (s : StationLine). s.name) l.stations ++ ns) (names_kept 0 n x l.repeaters))) sound.device_names;
      taps = subst AreDifferent (sym (ap (λ (ps : List PortLine). map tap_of l.stations ++ ps) (taps_kept 0 n x l.repeaters))) sound.taps;
      tree = record { loops = rw (rows, edges) loops; joined = rw (rows, edges) joined };
    }

-- where the bounds are kept the delay is
pub delay_fits : (l : Layout) (n x : ℕ) → KeepsBounds (lengthened_delay l n x) → (row : RepeaterLine) → slice_get l.repeaters n ≡ Some row → row.delay + x ≤ greatest_delay
delay_fits l n x keeps row h =
    let e : delay_of (lengthened_delay l n x) (Port n 0) ≡ delay_of l (Port n 0) + x = delay_grown l n x 0 row h in
    let d : delay_of l (Port n 0) ≡ row.delay = ap (λ (o : Option RepeaterLine). unwrap_or (option_map (λ (row : RepeaterLine). row.delay) o) 0) h in
    let low : delay_of (lengthened_delay l n x) (Port n 0) ≤ greatest_delay = keeps.delays (Port n 0) in
    omega arith
