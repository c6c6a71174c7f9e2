-- How far each gap and each delay of a layout can grow (profile, in the manner of clause 13). Places, delays and
-- lengthenings are half bits; segments, repeaters and stations count from 0.
use Rattle.std.specs.Prelude.{◌≡◌, ◌≢◌, ◌⊎◌, ◌↔◌, ℕ, ◌+◌, ◌*◌, ◌<◌, ◌≤◌, nat_lt, if◌then◌else◌, List, All, Option, None, Some}
use Rattle.std.specs.List.{AllPairs, Any}
use Rattle.mac_parameters.specs.Parameters.{slot_time, interframe_gap}
use Rattle.layout.specs.declared.lines.Layout.{Layout}
use Rattle.layout.specs.declared.ways.Attachment.{Attachment}
use Rattle.layout.specs.Paths.{place}
use Rattle.path_checker.specs.declared.verdict.PathVerdict.TheVariants.{Over}
use Rattle.path_checker.specs.Verdicts.{IsRoundTrip, IsVerdict}
use Rattle.path_slack.specs.declared.slack.DelaySlack.{DelaySlack}
use Rattle.path_slack.specs.declared.slack.GapSlack.{GapSlack}
use Rattle.path_slack.specs.declared.slack.Limit.{Limit}
use Rattle.path_slack.specs.declared.slack.Limit.TheVariants.{Pair, Bound}
use Rattle.path_slack.specs.declared.worst.FarthestPair.{FarthestPair}
use Rattle.path_slack.specs.Lengthened.{lengthened_gap, lengthened_delay, KeepsBounds}

-- Some two stations have a round trip of the slot time or more (4.4.2).
pub record IsOverlong (l : Layout) : Type 0 where
  pub a : ℕ
  pub b : ℕ
  pub different : a ≢ b
  pub trip : ℕ
  pub has : IsRoundTrip l a b trip
  pub most : slot_time ≤ trip

-- A layout passes: its places and delays keep their bounds, and no round trip is too long.
pub record Passes (l : Layout) : Type 0 where
  pub bounds : KeepsBounds l
  pub short : IsOverlong l → ⊥

-- Why a layout does not pass: the pair is the first one that has its worst round trip, which is the slot time or more;
-- or all round trips are short, and a place or a delay is out of bounds.
abbrev pub IsStoppedBy : Layout → Limit → Type 0
IsStoppedBy l (Pair a b) = (worst : ℕ) × IsVerdict l (Over worst a b)
IsStoppedBy l Bound = (KeepsBounds l → ⊥) × (IsOverlong l → ⊥)

-- The slack of what can grow, where `grown x` is the layout in which it has grown by x: the greatest x with which the
-- layout passes, and what stops it one half bit later. There is none where the layout itself has too long a round trip.
abbrev pub IsSlack : Layout → (ℕ → Layout) → Option (ℕ × Limit) → Type 0
IsSlack l grown None = IsOverlong l
IsSlack l grown (Some s) =
    (IsOverlong l → ⊥) × ((x : ℕ) → Passes (grown x) ↔ (x ≤ s.0)) × IsStoppedBy (grown (s.0 + 1)) s.1

-- Some tap of the segment stands at this place.
pub record HasTapAt (l : Layout) (segment at : ℕ) : Type 0 where
  pub tap : Attachment
  pub stands : place l tap ≡ Some (record { segment = segment; at = at })

-- Two places of a segment at which taps stand, with no tap between them.
pub record IsGap (l : Layout) (segment low high : ℕ) : Type 0 where
  pub bottom : HasTapAt l segment low
  pub top : HasTapAt l segment high
  pub order : low < high
  pub empty : (at : ℕ) → low < at → at < high → HasTapAt l segment at → ⊥

-- The first gap is on a segment before that of the second one, or on the same and nearer to the cable's end.
abbrev pub IsBefore : GapSlack → GapSlack → Type 0
IsBefore g h = (g.segment < h.segment) ⊎ ((g.segment ≡ h.segment) × (g.low < h.low))

-- An entry is of this gap.
abbrev pub IsOfGap : ℕ → ℕ → ℕ → GapSlack → Type 0
IsOfGap segment low high g = (g.segment ≡ segment) × (g.low ≡ low) × (g.high ≡ high)

-- These entries are of all gaps of a layout, in order of segments and then of places.
pub record AreGaps (l : Layout) (gaps : List GapSlack) : Type 0 where
  pub each : All (λ g. IsGap l g.segment g.low g.high) gaps
  pub order : AllPairs IsBefore gaps
  pub all : (segment low high : ℕ) → IsGap l segment low high → Any (IsOfGap segment low high) gaps

-- A gap, by its segment and its upper place, comes before the place k of a segment.
abbrev pub IsGapBelow : ℕ → ℕ → ℕ → ℕ → Type 0
IsGapBelow segment k n high = (n < segment) ⊎ ((n ≡ segment) × (high < k))

-- These entries are of all gaps of a layout that come before the place k of a segment, in order.
pub record AreGapsBelow (l : Layout) (segment k : ℕ) (gaps : List GapSlack) : Type 0 where
  pub each : All (λ g. IsGap l g.segment g.low g.high) gaps
  pub below : All (λ g. IsGapBelow segment k g.segment g.high) gaps
  pub order : AllPairs IsBefore gaps
  pub all :
      (n low high : ℕ) → IsGap l n low high → IsGapBelow segment k n high → Any (IsOfGap n low high) gaps

-- The lower one of a place, if there is one, and another.
abbrev pub lower_place : Option ℕ → ℕ → Option ℕ
lower_place None at = Some at
lower_place (Some p) at = if nat_lt at p then Some at else Some p

-- The first place of a segment from a place on at which a tap stands, and None where there is none.
abbrev pub IsFirstPlace : Layout → ℕ → ℕ → Option ℕ → Type 0
IsFirstPlace l segment from None = (at : ℕ) → from ≤ at → HasTapAt l segment at → ⊥
IsFirstPlace l segment from (Some p) =
    HasTapAt l segment p × (from ≤ p) × ((at : ℕ) → from ≤ at → HasTapAt l segment at → p ≤ at)

-- The last place of a segment at which a tap stands, and 0 where none does.
pub record IsLastPlace (l : Layout) (segment last : ℕ) : Type 0 where
  pub least : (at : ℕ) → HasTapAt l segment at → at ≤ last
  pub has : HasTapAt l segment last ⊎ (last ≡ 0)

-- The slack of a gap.
abbrev pub IsGapSlack : Layout → GapSlack → Type 0
IsGapSlack l g = IsSlack l (lengthened_gap l g.segment g.high) g.slack

-- The slack of a repeater's delay.
abbrev pub IsDelaySlack : Layout → DelaySlack → Type 0
IsDelaySlack l d = IsSlack l (lengthened_delay l d.repeater) d.slack

-- A lengthening by x that is as great as the bound and the worst pair leave, and what stops it: with x the pair's round
-- trip is less than the slot time; with one more it is not, or the bound is passed.
abbrev pub IsReckoned : ℕ → Option FarthestPair → ℕ × Limit → Type 0
IsReckoned room None s = (s.0 ≡ room) × (s.1 ≡ Bound)
IsReckoned room (Some w) s =
    (s.0 ≤ room) × (2 * (w.length + s.0) + interframe_gap < slot_time)
    × (((s.1 ≡ Pair w.a w.b) × (slot_time ≤ 2 * (w.length + s.0 + 1) + interframe_gap))
    ⊎ ((s.1 ≡ Bound) × (s.0 ≡ room) × (2 * (w.length + s.0 + 1) + interframe_gap < slot_time)))
