-- Paths from tap to tap, which go along a segment's cable and through a repeater by turns, and their lengths (profile).
-- Places on a cable, delays and lengths are half bits; stations, segments, repeaters and ports have numbers from 0.
use Rattle.std.specs.Prelude.{◌≡◌, ◌≢◌, ℕ, ◌+◌, ◌<◌, ◌↔◌, List, [], ◌∷◌, length, Option, None, Some, slice_get, option_map, option_and_then, unwrap_or}
use Rattle.layout.specs.declared.lines.Layout.{Layout}
use Rattle.layout.specs.declared.lines.PortLine.{PortLine}
use Rattle.layout.specs.declared.ways.Attachment.{Attachment}
use Rattle.layout.specs.declared.ways.Attachment.TheVariants.{Station, Port}
use Rattle.layout.specs.declared.ways.Way.{Way}
use Rattle.layout.specs.declared.ways.Way.TheVariants as way
use Rattle.layout.specs.EdgePaths.{EdgePath}
use Rattle.layout.specs.Networks.{network_edges}
use Rattle.layout.specs.Taps.{tap_of}
use Rattle.mac_parameters.specs.Distances.{distance}

-- where a tap stands, if the layout has it
abbrev pub place : Layout → Attachment → Option PortLine
place l (Station k) = option_map tap_of (slice_get l.stations k)
place l (Port r p) = option_and_then (λ row. slice_get row.ports p) (slice_get l.repeaters r)

-- the layout has this tap
abbrev pub IsTap : Layout → Attachment → Type 0
IsTap l t = (p : PortLine) × (place l t ≡ Some p)

-- each tap of the layout stands on one of its segments
abbrev pub StandsOnSegments : Layout → Type 0
StandsOnSegments l = (t : Attachment) (p : PortLine) → place l t ≡ Some p → p.segment < length l.segments

-- by the cable a tap's segment, and by the repeater the one whose port the tap is
abbrev pub part_by : Layout → Way → Attachment → Option ℕ
part_by l way.Cable t = option_map (λ p. p.segment) (place l t)
part_by l way.Repeater (Station k) = None
part_by l way.Repeater (Port r p) = option_map (λ _. r) (place l (Port r p))

-- two different taps of one segment, or two different ports of one repeater
pub record IsStep (l : Layout) (way : Way) (a b : Attachment) : Type 0 where
  pub different : a ≢ b
  pub part : ℕ
  pub from : part_by l way a ≡ Some part
  pub to : part_by l way b ≡ Some part

-- the cable after the repeater, and the repeater after the cable
abbrev pub other_way : Way → Way
other_way way.Cable = way.Repeater
other_way way.Repeater = way.Cable

-- from tap a these taps lead to tap b, the first of them by this way and each further one by the other way
abbrev pub IsWalk : Layout → Way → Attachment → List Attachment → Attachment → Type 0
IsWalk l way a [] b = a ≡ b
IsWalk l way a (t ∷ ts) b = IsStep l way a t × IsWalk l (other_way way) t ts b

-- a path: the way by which it begins, and the taps to which it leads
pub record Path : Type 0 where
  pub begins : Way
  pub taps : List Attachment

-- the path leads from tap a to tap b
abbrev pub IsPath : Layout → Attachment → Path → Attachment → Type 0
IsPath l a p b = IsWalk l p.begins a p.taps b

-- a tap's place on its cable
abbrev pub at_of : Layout → Attachment → ℕ
at_of l t = unwrap_or (option_map (λ p. p.at) (place l t)) 0

-- the delay of a port's repeater
abbrev pub delay_of : Layout → Attachment → ℕ
delay_of l (Station k) = 0
delay_of l (Port r p) = unwrap_or (option_map (λ row. row.delay) (slice_get l.repeaters r)) 0

-- the cable between two taps, or the delay of a repeater
abbrev pub step_length : Layout → Way → Attachment → Attachment → ℕ
step_length l way.Cable a b = distance (at_of l a) (at_of l b)
step_length l way.Repeater a b = delay_of l a

-- the sum of the steps from tap a over these taps, the first by this way and each further one by the other way
abbrev pub walk_length : Layout → Way → Attachment → List Attachment → ℕ
walk_length l way a [] = 0
walk_length l way a (t ∷ ts) = step_length l way a t + walk_length l (other_way way) t ts

-- the sum of the cables and the repeaters' delays on a path from tap a
abbrev pub length_of : Layout → Attachment → Path → ℕ
length_of l a p = walk_length l p.begins a p.taps

-- some path from a to b is n long
pub record IsDistance (l : Layout) (a b : Attachment) (n : ℕ) : Type 0 where
  pub path : Path
  pub leads : IsPath l a path b
  pub long : length_of l a path ≡ n

-- between two different taps there is exactly one path
pub record HasOnePath (l : Layout) : Type 0 where
  pub some : (a b : Attachment) → IsTap l a → IsTap l b → a ≢ b → (p : Path) × IsPath l a p b
  pub same : (a b : Attachment) → a ≢ b → (p q : Path) → IsPath l a p b → IsPath l a q b → p ≡ q

-- two different taps have exactly one distance
pub record HasOneDistance (l : Layout) : Type 0 where
  pub some : (a b : Attachment) → IsTap l a → IsTap l b → a ≢ b → (n : ℕ) × IsDistance l a b n
  pub same : (a b : Attachment) → a ≢ b → (m n : ℕ) → IsDistance l a b m → IsDistance l a b n → m ≡ n

-- between two different taps a path leads exactly where a path of edges joins their segments
abbrev pub PathsFollowEdges : Layout → Type 0
PathsFollowEdges l = (a b : Attachment) (p q : PortLine) → place l a ≡ Some p → place l b ≡ Some q → a ≢ b
    → ((path : Path) × IsPath l a path b) ↔ EdgePath (network_edges l) p.segment q.segment
