-- What a log tells of receptions and of ports (profile). Stations, repeaters and ports count from 0.
use Rattle.std.specs.Prelude.{◌≡◌, ℕ, ◌+◌, ◌<◌, ◌&&◌, nat_lt, if◌then◌else◌, Bool, List, [], length, Option, None, Some, slice_get, slice_index_or}
use Rattle.std.specs.Global.{Vec}
use Rattle.std.specs.List.{list_all}
use Rattle.std.specs.List.Sorted.{IsNonDecreasingBy, IsSorted}
use Rattle.layout.specs.Paths.{HasOnePath, Path, place}
use Rattle.layout.specs.declared.lines.Layout.{Layout}
use Rattle.layout.specs.declared.lines.PortLine.{PortLine}
use Rattle.layout.specs.declared.ways.Attachment.TheVariants.{Port}
use Rattle.log_meter.specs.declared.line.LogLine.{LogLine}
use Rattle.frame_table.specs.Devices.{RisesFrom, events_of}
use Rattle.frame_table.specs.Led.{AreLed}
use Rattle.frame_table.specs.Ports.{changes_of, is_open}
use Rattle.frame_table.specs.Receptions.{AreReceptions, has_received, reception_cmp}
use Rattle.frame_table.specs.Ways.{AreRoutes}
use Rattle.frame_table.specs.declared.events.Event.{Event}
use Rattle.frame_table.specs.declared.ports.Change.{Change}
use Rattle.frame_table.specs.declared.reach.Reach.{Reach}
use Rattle.frame_table.specs.declared.receptions.Reception.{Reception}
use Rattle.frame_table.specs.declared.routes.WayIn.{WayIn}
use Rattle.frame_table.specs.declared.routes.Led.{Led}
use Rattle.frame_table.specs.declared.told.ToldByLog.{ToldByLog}

-- the changes of a port of a repeater
abbrev pub changes_at : List (List (List Change)) → ℕ → ℕ → List Change
changes_at ports r p = slice_index_or (slice_index_or ports r []) p []

-- the items of a vector, where there is one
abbrev pub items_of : {X : Type 0} → Option (Vec X) → List X
items_of None = []
items_of (Some v) = v.items

-- the receptions of a station
abbrev pub receptions_at : List (Vec Reception) → ℕ → List Reception
receptions_at receptions k = items_of (slice_get receptions k)

-- this is told by these lines
pub record IsToldByLines (l : Layout) (lines : List LogLine) (told : ToldByLog) : Type 0 where
  pub receptions :
      (k : ℕ) → k < length l.stations → AreReceptions (events_of l k lines) (receptions_at told.receptions.items k)
  pub ports :
      (r p : ℕ) (line : PortLine) → place l (Port r p) ≡ Some line
      → changes_at told.ports.items r p ≡ changes_of (p + 1) (events_of l (length l.stations + r) lines)

-- these are the changes of all ports, by the events of all devices
pub record AreChanges (l : Layout) (events : List (List Event)) (ports : Vec (List (List Change))) : Type 0 where
  pub each :
      (r p : ℕ) (line : PortLine) → place l (Port r p) ≡ Some line
      → changes_at ports.items r p ≡ changes_of (p + 1) (slice_index_or events (length l.stations + r) [])
  pub order :
      ((k : ℕ) → RisesFrom (λ e. e.t) 0 (slice_index_or events k []))
      → (r p : ℕ) → IsNonDecreasingBy (λ c. c.t) (changes_at ports.items r p)

-- receptions and changes are in order
pub record AreOrdered (told : ToldByLog) : Type 0 where
  pub receptions : (k : ℕ) → IsSorted reception_cmp (receptions_at told.receptions.items k)
  pub ports : (r p : ℕ) → IsNonDecreasingBy (λ c. c.t) (changes_at told.ports.items r p)

-- whether a port is open when the end of a frame comes to it that ended in half bit t where the way began
abbrev pub is_entered_by : ToldByLog → ℕ → WayIn → Bool
is_entered_by told t e = is_open (t + e.at) (changes_at told.ports.items e.repeater e.port)

-- whether a frame of so many octets that ended in half bit t reached station b by a way
abbrev pub is_reached_by : ToldByLog → ℕ → ℕ → ℕ → Led → Bool
is_reached_by told octets t b route =
    has_received (t + route.length) octets (receptions_at told.receptions.items b)
    && list_all (is_entered_by told t) route.entries

-- one more station, which was reached or, if the frame's end came to it within the run, missed
abbrev pub with_station : ToldByLog → ℕ → ℕ → ℕ → ℕ → Led → Reach → Reach
with_station told half_bits octets t b route before =
    if is_reached_by told octets t b route then (record before { reached = before.reached + 1 })
    else (if nat_lt (t + route.length) half_bits then (record before { missed = before.missed + 1 }) else before)

-- what is known where the frames of station a are told, by the paths from station to station
pub record AreKnown
    (l : Layout) (lines : List LogLine) (paths : ℕ → ℕ → Path) (told : ToldByLog) (a : ℕ) (routes : List (Option Led)) :
    Type 0 where
  pub log : IsToldByLines l lines told
  pub one : HasOnePath l
  pub leads : AreRoutes l paths
  pub led : AreLed l a routes
  pub count : length routes ≡ length l.stations
  pub station : a < length l.stations
