-- Which drops have their words beside their signs (profile). Half bits and stations count from 0. Rooms are, for each
-- station, from which half bit on no word stands on its lane.
use Rattle.std.specs.Prelude.{ℕ, ◌+◌, ◌-◌, ◌*◌, ◌/◌, nat_le, ◌&&◌, Bool, true, false, if◌then◌else◌, min, List, [], ◌∷◌, replicate, length, Option, None, Some, slice_index_or, slice_set}
use Rattle.std.specs.Option.{is_some}
use Rattle.std.specs.Str.{bytes_eq}
use Rattle.collision_log.specs.declared.row.Body.{Body}
use Rattle.collision_log.specs.declared.row.Body.TheVariants.{Dropped}
use Rattle.layout.specs.declared.lines.Layout.{Layout}
use Rattle.log_meter.specs.declared.line.LogLine.{LogLine}
use Rattle.run_picture.specs.Sendings.{is_in_window, sending_of}
use Rattle.run_picture.specs.Sizes.{word_share}
use Rattle.run_picture.specs.Strangers.{number_of_station}
use Rattle.run_picture.specs.declared.sending.Sending.{Sending}
use Rattle.run_picture.specs.declared.window.Window.{Window}

-- the half bits that a word takes, rounded up
abbrev pub word_length : Window → ℕ
word_length window = (word_share * (window.to - window.from) + 99) / 100

-- whether what happened is that a reception was dropped
abbrev pub is_drop : Body → Bool
is_drop (Dropped why halves) = true
is_drop _ = false

-- the first half bit behind a word at half bit t, or that behind the picture where it comes first
abbrev pub end_of_word : Window → ℕ → ℕ
end_of_word window t = min window.to (t + word_length window)

-- the sending that a line tells of, if the station with this name sent
abbrev pub sending_by : List ℕ → LogLine → Option Sending
sending_by name line = if bytes_eq line.name name then sending_of line.t line.body else None

-- whether a sending begins in half bit t or later, or where there is none, what is said of the rest
abbrev pub begins_no_sooner : ℕ → Option Sending → Bool → Bool
begins_no_sooner t None rest = rest
begins_no_sooner t (Some sending) rest = nat_le t sending.start

-- whether the next sending of the station with this name, if one of these lines tells of one, begins in half bit t or
-- later
abbrev pub has_no_bar_before : List ℕ → ℕ → List LogLine → Bool
has_no_bar_before name t [] = true
has_no_bar_before name t (line ∷ lines) = begins_no_sooner t (sending_by name line) (has_no_bar_before name t lines)

-- this station, if its lane has room for a word at half bit t: no earlier word stands there, and no bar
abbrev pub with_room : List ℕ → ℕ → Bool → Option ℕ → Option ℕ
with_room rooms t clear None = None
with_room rooms t clear (Some k) = if nat_le (slice_index_or rooms k 0) t && clear then Some k else None

-- the station on whose lane the word of a line stands, if the line has one: it tells of a drop in the window, and the
-- lane has room, where these are the later lines
abbrev pub station_of_word : Window → Layout → List ℕ → LogLine → List LogLine → Option ℕ
station_of_word window l rooms line later =
    if is_drop line.body && is_in_window window line.t then
    with_room rooms line.t (has_no_bar_before line.name (end_of_word window line.t) later)
    (number_of_station l.stations line.name)
    else None

-- the rooms after a word at half bit t on the lane of this station
abbrev pub rooms_with : Window → List ℕ → ℕ → Option ℕ → List ℕ
rooms_with window rooms t None = rooms
rooms_with window rooms t (Some k) = slice_set rooms k (t + word_length window)

-- the rooms after a line
abbrev pub rooms_after : Window → Layout → List ℕ → LogLine → List LogLine → List ℕ
rooms_after window l rooms line later = rooms_with window rooms line.t (station_of_word window l rooms line later)

-- whether a line has a word
abbrev pub has_word : Window → Layout → List ℕ → LogLine → List LogLine → Bool
has_word window l rooms line later = is_some (station_of_word window l rooms line later)

-- the rooms before the first line: each lane has room from the first half bit on
abbrev pub first_rooms : Layout → List ℕ
first_rooms l = replicate (length l.stations) 0
