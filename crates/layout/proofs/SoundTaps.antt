-- Where the taps of a sound layout stand, and how long its steps are at most.
use Rattle.std.proofs.Common.{◌≡◌, refl, sym, ◌∙◌, ap, subst, ℕ, ◌*◌, ◌≤◌, List, [], ◌∷◌, length, Option, None, Some, slice_get, All, arith}
use Rattle.std.specs.Option.{option_map, unwrap_or}
use Rattle.std.proofs.lemmas.Option.{same_Some, slice_get_within, get_or_from_slice_get}
use Rattle.layout.specs.declared.lines.Layout.{Layout}
use Rattle.layout.specs.declared.lines.PortLine.{PortLine}
use Rattle.layout.specs.declared.lines.RepeaterLine.{RepeaterLine}
use Rattle.layout.specs.declared.lines.StationLine.{StationLine}
use Rattle.layout.specs.declared.ways.Attachment.{Attachment}
use Rattle.layout.specs.declared.ways.Attachment.TheVariants.{Station, Port}
use Rattle.layout.specs.declared.ways.Way.{Way}
use Rattle.layout.specs.declared.ways.Way.TheVariants as way
use Rattle.layout.specs.Paths.{place, at_of, delay_of, step_length, other_way, walk_length, HasOnePath, HasOneDistance}
use Rattle.mac_parameters.specs.Distances.{distance}
use Rattle.mac_parameters.specs.Parameters.{greatest_place}
use Rattle.mac_parameters.specs.Parameters.{greatest_delay}
use Rattle.layout.specs.Taps.{tap_of}
use Rattle.layout.specs.Sound.{IsSound, IsSoundStation, IsSoundPort, IsSoundRepeater}
use Rattle.layout.proofs.Cuts.{mapped, HasCuts}
use Rattle.layout.proofs.OneDistance.{one_path_of, one_distance_of}
use Rattle.layout.specs.Paths.{StandsOnSegments}
use Rattle.layout.proofs.Sides.{IsPortOf, port_of, tree_has_cuts}

pub at_all : {X : Type 0} (P : X → Type 0) (xs : List X) (k : ℕ) (x : X) → All P xs → slice_get xs k ≡ Some x → P x
at_all P xs k x all h = subst P (get_or_from_slice_get xs k x x h) (all k x (slice_get_within xs k x h))

pub sound_repeater : (l : Layout) → IsSound l → (r : ℕ) (row : RepeaterLine) → slice_get l.repeaters r ≡ Some row → IsSoundRepeater (length l.segments) row
sound_repeater l sound r row h = at_all (IsSoundRepeater (length l.segments)) l.repeaters r row sound.repeaters h

-- the place of a tap is that of a port
pub sound_place : (l : Layout) → IsSound l → (t : Attachment) (p : PortLine) → place l t ≡ Some p → IsSoundPort (length l.segments) p
sound_place l sound (Station k) p h =
    let found : (s : StationLine) × (slice_get l.stations k ≡ Some s) = mapped tap_of (slice_get l.stations k) p h in
    let is : IsSoundStation l.format (length l.segments) found.0 = at_all (IsSoundStation l.format (length l.segments)) l.stations k found.0 sound.stations found.1 in
    let same : tap_of found.0 ≡ p = same_Some (tap_of found.0) p (sym (ap (option_map tap_of) found.1) ∙ h) in
    subst (IsSoundPort (length l.segments)) same (record { segment = is.segment; at = is.at })
sound_place l sound (Port r q) p h =
    let found : IsPortOf l.repeaters r q p = port_of l r q p h in
    at_all (IsSoundPort (length l.segments)) found.row.ports q p (sound_repeater l sound r found.row found.of_row).ports found.of_port

pub sound_stands : (l : Layout) → IsSound l → StandsOnSegments l
sound_stands l sound t p h = (sound_place l sound t p h).segment

place_at : (o : Option PortLine) → ((p : PortLine) → o ≡ Some p → p.at ≤ greatest_place) → unwrap_or (option_map (λ (p : PortLine). p.at) o) 0 ≤ greatest_place
place_at None low = omega arith
place_at (Some p) low = low p refl

pub at_low : (l : Layout) → IsSound l → (t : Attachment) → at_of l t ≤ greatest_place
at_low l sound t = place_at (place l t) (λ p h. (sound_place l sound t p h).at)

row_delay : (o : Option RepeaterLine) → ((r : RepeaterLine) → o ≡ Some r → r.delay ≤ greatest_delay) → unwrap_or (option_map (λ (r : RepeaterLine). r.delay) o) 0 ≤ greatest_delay
row_delay None low = omega arith
row_delay (Some r) low = low r refl

pub delay_low : (l : Layout) → IsSound l → (t : Attachment) → delay_of l t ≤ greatest_delay
delay_low l sound (Station k) = omega arith
delay_low l sound (Port r p) = row_delay (slice_get l.repeaters r) (λ row h. (sound_repeater l sound r row h).delay_most)

apart_low : (x y : ℕ) → x ≤ greatest_place → y ≤ greatest_place → distance x y ≤ greatest_place
apart_low x y h k = omega arith

pub step_low : (l : Layout) → IsSound l → (w : Way) (a b : Attachment) → step_length l w a b ≤ greatest_place
step_low l sound way.Cable a b = apart_low (at_of l a) (at_of l b) (at_low l sound a) (at_low l sound b)
step_low l sound way.Repeater a b = omega (arith, delay_low l sound a)

pub walk_low : (l : Layout) → IsSound l → (w : Way) (a : Attachment) (ts : List Attachment) → walk_length l w a ts ≤ greatest_place * length ts
walk_low l sound w a [] = omega arith
walk_low l sound w a (t ∷ ts) = omega (arith, step_low l sound w a t, walk_low l sound (other_way w) t ts)

pub sound_cuts : (l : Layout) → IsSound l → HasCuts l
sound_cuts l sound = tree_has_cuts l (sound_stands l sound) sound.tree

pub sound_one_path : (l : Layout) → IsSound l → HasOnePath l
sound_one_path l sound = one_path_of l (sound_stands l sound) sound.tree

pub sound_one_distance : (l : Layout) → IsSound l → HasOneDistance l
sound_one_distance l sound = one_distance_of l (sound_one_path l sound)
