-- Pairs of stations whose path goes over a piece of cable or through a repeater (profile). Lengths and places are half
-- bits; segments, repeaters and stations count from 0.
use Rattle.std.specs.Prelude.{◌≡◌, ◌⊎◌, ℕ, ◌+◌, ◌<◌, ◌≤◌, Some}
use Rattle.layout.specs.declared.lines.Layout.{Layout}
use Rattle.layout.specs.declared.ways.Attachment.{Attachment}
use Rattle.layout.specs.declared.ways.Way.{Way}
use Rattle.layout.specs.declared.ways.Way.TheVariants as way
use Rattle.layout.specs.Paths.{part_by, IsStep, other_way, at_of, step_length}
use Rattle.path_checker.specs.Far.{IsReach}

-- Tap a stands below the place `high`, and tap b at it or above.
abbrev pub Rises : Layout → ℕ → Attachment → Attachment → Type 0
Rises l high a b = (at_of l a < high) × (high ≤ at_of l b)

-- Tap a is on the segment, and a step from it to tap b along the cable goes over the piece just below `high`.
abbrev pub OverPiece : Layout → ℕ → ℕ → Attachment → Attachment → Type 0
OverPiece l segment high a b = (part_by l way.Cable a ≡ Some segment) × (Rises l high a b ⊎ Rises l high b a)

-- Tap a is a port of the repeater, so that a step from it through a repeater goes through this one.
abbrev pub ThroughRepeater : Layout → ℕ → Attachment → Attachment → Type 0
ThroughRepeater l repeater a b = part_by l way.Repeater a ≡ Some repeater

-- The path from station a to station b is n half bits long, and one of its steps, which is by this way, is one of the
-- steps that C names.
pub record IsCrossed (l : Layout) (w : Way) (C : Attachment → Attachment → Type 0) (a b n : ℕ) : Type 0 where
  pub near : Attachment
  pub far : Attachment
  pub step : IsStep l w near far
  pub over : C near far
  pub before : ℕ
  pub after : ℕ
  pub start : IsReach l (other_way w) near before a
  pub finish : IsReach l (other_way w) far after b
  pub sum : before + step_length l w near far + after ≡ n
