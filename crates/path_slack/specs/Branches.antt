-- The branches of a segment: for each of its taps the station that is farthest from there off the cable (profile).
-- Segments, repeaters, ports and stations count from 0.
use Rattle.std.specs.Prelude.{◌≡◌, ℕ, List, Some}
use Rattle.layout.specs.declared.lines.Layout.{Layout}
use Rattle.layout.specs.declared.ways.Attachment.{Attachment}
use Rattle.layout.specs.declared.ways.Way.TheVariants as way
use Rattle.layout.specs.Among.{IsAmong}
use Rattle.layout.specs.Paths.{part_by}
use Rattle.path_checker.specs.Far.{IsReach, IsFarthest}
use Rattle.path_slack.specs.declared.branches.Branch.{Branch}

-- A branch says which station is farthest from its tap by the way that does not go along the cable.
abbrev pub IsBranch : Layout → Branch → Type 0
IsBranch l b = IsFarthest (IsReach l way.Repeater b.tap) b.far

-- These are the branches of a segment: one for each of its taps.
pub record AreBranchesOf (l : Layout) (segment : ℕ) (bs : List Branch) : Type 0 where
  pub on : (b : Branch) → IsAmong b bs → part_by l way.Cable b.tap ≡ Some segment
  pub far : (b : Branch) → IsAmong b bs → IsBranch l b
  pub all : (t : Attachment) → part_by l way.Cable t ≡ Some segment → (b : Branch) × IsAmong b bs × (b.tap ≡ t)
