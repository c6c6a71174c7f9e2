-- The devices that the lines of a log name, and what happened at each (profile). Devices count from 0, the stations
-- before the repeaters.
use Rattle.std.specs.Prelude.{◌≡◌, ℕ, ◌≤◌, ⊤, Bool, false, nat_le, nat_lt, ◌==◌, if◌then◌else◌, List, [], ◌∷◌, ◌++◌, length, Option, None, Some, slice_index_or, slice_set}
use Rattle.std.specs.Borrow.{Bor}
use Rattle.std.specs.BTreeMap.{BTreeMap, get_by}
use Rattle.std.specs.Cmp.Lexicographic.{slice_cmp}
use Rattle.std.specs.List.{filter_map, position_from}
use Rattle.std.specs.Ordering.{nat_cmp}
use Rattle.std.specs.Str.{bytes_eq}
use Rattle.layout.specs.Sound.{device_names}
use Rattle.layout.specs.declared.lines.Layout.{Layout}
use Rattle.log_meter.specs.declared.line.LogLine.{LogLine}
use Rattle.frame_table.specs.declared.events.Event.{Event}

-- whether a number is there and is n
abbrev pub is_number : ℕ → Option ℕ → Bool
is_number n None = false
is_number n (Some k) = k == n

-- the device with this number, where it is a repeater or none, as is said: the first so many devices are stations
abbrev pub of_kind : ℕ → Bool → Option ℕ → Option ℕ
of_kind stations repeater None = None
of_kind stations repeater (Some k) =
    if (if repeater then nat_le stations k else nat_lt k stations) then Some k else None

-- the first of these devices with this name
abbrev pub place_of_name : List (List ℕ) → List ℕ → Option ℕ
place_of_name names name = position_from (λ n. bytes_eq n name) 0 names

-- a map has the places of these names
abbrev pub HasPlaces : List (List ℕ) → BTreeMap (Bor (List ℕ)) ℕ → Type 0
HasPlaces names places =
    (name : List ℕ) → get_by (λ k. slice_cmp nat_cmp name k.now) places ≡ place_of_name names name

-- the device that a line names, where the layout has it, and as of the line's kind
abbrev pub device_named : Layout → LogLine → Option ℕ
device_named l line = of_kind (length l.stations) line.repeater (place_of_name (device_names l) line.name)

-- what a line tells of device k, where it names that
abbrev pub event_at : Layout → ℕ → LogLine → Option Event
event_at l k line =
    if is_number k (device_named l line) then Some (record { t = line.t; body = line.body }) else None

-- what these lines tell of device k, in their order
abbrev pub events_of : Layout → ℕ → List LogLine → List Event
events_of l k lines = filter_map (event_at l k) lines

-- the events of all devices, with one more at the end of those of a device, where there is one
abbrev pub events_with : List (List Event) → Option ℕ → Event → List (List Event)
events_with events None e = events
events_with events (Some k) e = slice_set events k (slice_index_or events k [] ++ e ∷ [])

-- the half bits never fall, and none is below t
abbrev pub RisesFrom : {X : Type 0} → (X → ℕ) → ℕ → List X → Type 0
RisesFrom at t [] = ⊤
RisesFrom at t (x ∷ xs) = (t ≤ at x) × RisesFrom at (at x) xs
