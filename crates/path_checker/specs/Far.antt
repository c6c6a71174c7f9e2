-- The station that is farthest from a tap by one way, along a cable or through a repeater (profile, in the manner of
-- clause 13). Lengths are half bits; segments, stations, repeaters and their ports count from 0.
use Rattle.std.specs.Prelude.{◌≡◌, ◌⊎◌, ℕ, ◌+◌, ◌*◌, ◌<◌, ◌≤◌, Bool, false, ◌==◌, ◌&&◌, nat_lt, if◌then◌else◌, List, length, slice_index_or, slice_set, Option, None, Some, option_map}
use Rattle.layout.specs.declared.lines.Layout.{Layout}
use Rattle.layout.specs.declared.ways.Attachment.{Attachment}
use Rattle.layout.specs.declared.ways.Attachment.TheVariants.{Station, Port}
use Rattle.layout.specs.declared.ways.Way.{Way}
use Rattle.layout.specs.declared.ways.Way.TheVariants as way
use Rattle.layout.specs.Paths.{place, IsStep, other_way, IsWalk, step_length, walk_length}
use Rattle.path_checker.specs.declared.far.Far.{Far}
use Rattle.path_checker.specs.declared.stops.Stop.{Stop}
use Rattle.path_checker.specs.declared.table.Entry.{Entry}
use Rattle.path_checker.specs.declared.table.Entry.TheVariants.{Open, Found}

-- The layout has the stop's tap at the stop's place of its segment.
abbrev pub IsStop : Layout → Stop → Type 0
IsStop l s = place l s.tap ≡ Some (record { segment = s.segment; at = s.at })

-- No walk from the tap that begins by this way has more than `room` steps.
pub record HasRoom (l : Layout) (way : Way) (a : Attachment) (room : ℕ) : Type 0 where
  pub most : (ts : List Attachment) (b : Attachment) → IsWalk l way a ts b → length ts ≤ room

-- From tap a some walk, the first step of which is by this way, leads over n half bits to station s.
pub record IsReach (l : Layout) (way : Way) (a : Attachment) (n s : ℕ) : Type 0 where
  pub taps : List Attachment
  pub leads : IsWalk l way a taps (Station s)
  pub long : walk_length l way a taps ≡ n

-- From tap a some walk, whose first step is by this way to tap g, leads over n half bits to station s.
pub record IsVia (l : Layout) (way : Way) (a g : Attachment) (n s : ℕ) : Type 0 where
  pub step : IsStep l way a g
  pub rest : ℕ
  pub reach : IsReach l (other_way way) g rest s
  pub sum : step_length l way a g + rest ≡ n

-- From tap a some walk of one step or more, the first of which is by this way, leads over n half bits to station s.
pub record IsOnward (l : Layout) (way : Way) (a : Attachment) (n s : ℕ) : Type 0 where
  pub first : Attachment
  pub via : IsVia l way a first n s

-- n half bits to station s are less than that, or as much and not to a lower station.
abbrev pub IsNoFarther : ℕ → ℕ → Far → Type 0
IsNoFarther n s f = (n < f.length) ⊎ ((n ≡ f.length) × (f.station ≤ s))

-- Of the lengths and stations for which Q holds this is the farthest, of equally far ones the lowest station, and None
-- where Q holds for none.
abbrev pub IsFarthest : (ℕ → ℕ → Type 0) → Option Far → Type 0
IsFarthest Q None = (n s : ℕ) → Q n s → ⊥
IsFarthest Q (Some f) = Q f.length f.station × ((n s : ℕ) → Q n s → IsNoFarther n s f)

-- The same station, k half bits farther away.
abbrev pub lengthened : ℕ → Option Far → Option Far
lengthened k far = option_map (λ f. record { length = k + f.length; station = f.station }) far

-- The farther one of two, and of two that are equally far the one with the lower station.
abbrev pub farther_of : Option Far → Option Far → Option Far
farther_of None b = b
farther_of (Some x) None = Some x
farther_of (Some x) (Some y) =
    if nat_lt x.length y.length
    then Some y
    else (if nat_lt y.length x.length then Some x else (if nat_lt y.station x.station then Some y else Some x))

-- Whether two taps are one.
abbrev pub is_same_tap : Attachment → Attachment → Bool
is_same_tap (Station k) (Station j) = k == j
is_same_tap (Station k) (Port s q) = false
is_same_tap (Port r p) (Station j) = false
is_same_tap (Port r p) (Port s q) = (r == s) && (p == q)

-- The number of a way, by which a table has its entries: 0 along a cable, 1 through a repeater.
abbrev pub way_number : Way → ℕ
way_number way.Cable = 0
way_number way.Repeater = 1

-- Where a table has the entry of a port by a way, counted from 0: there are two for each port, and room for the 32
-- ports that a repeater has at most.
abbrev pub entry_place : Way → ℕ → ℕ → ℕ
entry_place w r p = 64 * r + 2 * p + way_number w

-- The entry of a tap by a way; that of a station is always Open, since it has none.
abbrev pub entry_of : List Entry → Way → Attachment → Entry
entry_of table w (Station k) = Open
entry_of table w (Port r p) = slice_index_or table (entry_place w r p) Open

-- A table in which that is now found for a tap by a way; for a station it stays as it is.
abbrev pub with_entry : List Entry → Way → Attachment → Option Far → List Entry
with_entry table w (Station k) far = table
with_entry table w (Port r p) far = slice_set table (entry_place w r p) (Found far)

-- What the table has found for a port by a way is the farthest station from there.
pub record IsRight (l : Layout) (table : List Entry) : Type 0 where
  pub right :
      (w : Way) (r p : ℕ) (far : Option Far) → p < 32 → entry_of table w (Port r p) ≡ Found far
      → IsFarthest (IsOnward l w (Port r p)) far
