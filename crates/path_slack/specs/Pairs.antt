-- The pair of stations that is farthest apart (profile, in the manner of clause 13). Lengths are half bits; stations
-- count from 0.
use Rattle.std.specs.Prelude.{◌≡◌, ◌⊎◌, ℕ, ◌+◌, ◌<◌, nat_lt, if◌then◌else◌, Option, None, Some}
use Rattle.path_checker.specs.declared.far.Far.{Far}
use Rattle.path_checker.specs.Verdicts.{IsNoLater}
use Rattle.path_slack.specs.declared.worst.FarthestPair.{FarthestPair}

-- Two stations as a pair, the lower one first, at the sum of the two lengths.
abbrev pub pair_of_farthest : Far → Far → FarthestPair
pair_of_farthest x y =
    if nat_lt x.station y.station
    then (record { length = x.length + y.length; a = x.station; b = y.station })
    else (record { length = x.length + y.length; a = y.station; b = x.station })

-- The pair of the stations that two sides reach, where both reach one.
abbrev pub pair_over : Option Far → Option Far → Option FarthestPair
pair_over None b = None
pair_over (Some x) None = None
pair_over (Some x) (Some y) = Some (pair_of_farthest x y)

-- The worse one of two pairs, and of two equally far the one whose first station is lower, then the second one.
abbrev pub worse_pair : FarthestPair → FarthestPair → FarthestPair
worse_pair v w =
    if nat_lt v.length w.length then w else (if nat_lt w.length v.length then v else (if nat_lt w.a v.a then w
    else (if nat_lt v.a w.a then v else (if nat_lt w.b v.b then w else v))))

-- The worse one of two pairs that there may be.
abbrev pub worse_of : Option FarthestPair → Option FarthestPair → Option FarthestPair
worse_of None w = w
worse_of (Some v) None = Some v
worse_of (Some v) (Some w) = Some (worse_pair v w)

-- Of the pairs and lengths for which Q holds this is the worst, the first one of equally far ones, and None where Q
-- holds for none; of a pair the lower station comes first.
abbrev pub IsWorstPair : (ℕ → ℕ → ℕ → Type 0) → Option FarthestPair → Type 0
IsWorstPair Q None = (a b n : ℕ) → a < b → Q a b n → ⊥
IsWorstPair Q (Some w) =
    (w.a < w.b) × Q w.a w.b w.length
    × ((a b n : ℕ) → a < b → Q a b n → (n < w.length) ⊎ ((n ≡ w.length) × IsNoLater w.a w.b a b))
