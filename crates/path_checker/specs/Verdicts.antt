-- The round trip of two stations, the worst of a layout, and what it means (profile, in the manner of clause 13).
-- Lengths are half bits; stations count from 0, and of a pair the lower one comes first.
use Rattle.std.specs.Prelude.{◌≡◌, ◌≢◌, ◌⊎◌, ℕ, ◌+◌, ◌*◌, ◌<◌, ◌≤◌, nat_lt, if◌then◌else◌, length, Option, None, Some}
use Rattle.mac_parameters.specs.Parameters.{slot_time, interframe_gap}
use Rattle.layout.specs.declared.lines.Layout.{Layout}
use Rattle.layout.specs.declared.ways.Attachment.TheVariants.{Station}
use Rattle.layout.specs.Paths.{IsDistance}
use Rattle.path_checker.specs.declared.far.Far.{Far}
use Rattle.path_checker.specs.declared.verdict.PathVerdict.{PathVerdict}
use Rattle.path_checker.specs.declared.verdict.PathVerdict.TheVariants.{Within, Over, NoPair}
use Rattle.path_checker.specs.declared.verdict.Worst.{Worst}

-- The layout has two such stations, the lower one first.
abbrev pub IsPair : Layout → ℕ → ℕ → Type 0
IsPair l a b = (a < b) × (b < length l.stations)

-- The round trip of two stations has rt half bits: twice their distance and an interframe gap.
pub record IsRoundTrip (l : Layout) (a b rt : ℕ) : Type 0 where
  pub distance : ℕ
  pub apart : IsDistance l (Station a) (Station b) distance
  pub sum : rt ≡ 2 * distance + interframe_gap

-- The pair (a, b) is (x, y) or comes before it, by the first stations and then by the second ones.
abbrev pub IsNoLater : ℕ → ℕ → ℕ → ℕ → Type 0
IsNoLater a b x y = (a < x) ⊎ ((a ≡ x) × (b ≤ y))

-- No two stations have a greater round trip, and of the pairs that have this one (a, b) is the first.
pub record IsWorst (l : Layout) (worst a b : ℕ) : Type 0 where
  pub pair : IsPair l a b
  pub has : IsRoundTrip l a b worst
  pub greatest : (x y rt : ℕ) → x ≢ y → IsRoundTrip l x y rt → rt ≤ worst
  pub first : (x y : ℕ) → IsPair l x y → IsRoundTrip l x y worst → IsNoLater a b x y

-- What a verdict says: the worst round trip is less than the slot time (4.4.2) or not, and there is none without two
-- stations.
abbrev pub IsVerdict : Layout → PathVerdict → Type 0
IsVerdict l (Within worst a b) = IsWorst l worst a b × (worst < slot_time)
IsVerdict l (Over worst a b) = IsWorst l worst a b × (slot_time ≤ worst)
IsVerdict l NoPair = length l.stations < 2

-- Station b is another one than a, and n half bits away from it.
abbrev pub IsApart : Layout → ℕ → ℕ → ℕ → Type 0
IsApart l a n b = (a ≢ b) × IsDistance l (Station a) (Station b) n

-- Of the pairs, either way round, whose first station is below k these are the farthest apart, the first pair of
-- equally far ones, and None where there are no such pairs.
abbrev pub IsWorstBelow : Layout → ℕ → Option Worst → Type 0
IsWorstBelow l k None = (x y n : ℕ) → x < k → IsApart l x n y → ⊥
IsWorstBelow l k (Some w) =
    (w.a < k) × IsApart l w.a w.length w.b
    × ((x y n : ℕ) → x < k → IsApart l x n y → (n < w.length) ⊎ ((n ≡ w.length) × IsNoLater w.a w.b x y))

-- The pair that is farther apart, the earlier one of two that are equally far: the worst so far, or station a and the
-- station that is farthest from it.
abbrev pub longer_of : Option Worst → ℕ → Option Far → Option Worst
longer_of worst a None = worst
longer_of None a (Some f) = Some (record { length = f.length; a = a; b = f.station })
longer_of (Some w) a (Some f) =
    if nat_lt w.length f.length then Some (record { length = f.length; a = a; b = f.station }) else Some w

-- What the pair that is the farthest apart, if there is one, says of the layout.
abbrev pub verdict_of_worst : Option Worst → PathVerdict
verdict_of_worst None = NoPair
verdict_of_worst (Some w) =
    if nat_lt (2 * w.length + interframe_gap) slot_time
    then Within (2 * w.length + interframe_gap) w.a w.b
    else Over (2 * w.length + interframe_gap) w.a w.b
