-- What the lines of one name say, station and repeater together, and how figures come from it (profile).
use Rattle.std.specs.Prelude.{◌≡◌, ℕ, ◌+◌, max, Bool, true, false, if◌then◌else◌, List, [], ◌∷◌, filter, flat_map, unwrap_or}
use Rattle.std.specs.Borrow.{Bor}
use Rattle.std.specs.BTreeMap.{BTreeMap, get_by}
use Rattle.std.specs.Cmp.Lexicographic.{slice_cmp}
use Rattle.std.specs.List.{list_any, prefix_len}
use Rattle.std.specs.Ordering.{nat_cmp}
use Rattle.std.specs.Str.{bytes_eq}
use Rattle.collision_log.specs.declared.row.Body.{Body}
use Rattle.collision_log.specs.declared.row.Body.TheVariants.{Sent, Collided, GivenUp, Cut, Received, Dropped, Clash, Closed, Opened, Halted}
use Rattle.log_meter.specs.Figures.{collided_share, is_of_repeater_named, is_of_station, is_sent_body, longest_row, repeater_tally, senders, sending_time, station_tally}
use Rattle.log_meter.specs.Lines.{is_of_repeater}
use Rattle.log_meter.specs.declared.device_figures.RepeaterFigures.{RepeaterFigures}
use Rattle.log_meter.specs.declared.device_figures.RepeaterTally.{RepeaterTally}
use Rattle.log_meter.specs.declared.device_figures.StationFigures.{StationFigures}
use Rattle.log_meter.specs.declared.device_figures.StationTally.{StationTally}
use Rattle.log_meter.specs.declared.line.LogLine.{LogLine}
use Rattle.log_meter.specs.declared.tally.Tally.{Tally}

-- no line has the name
abbrev pub empty_tally : Tally
empty_tally =
    record {
      station = false;
      repeater = false;
      of_station = station_tally [];
      longest = 0;
      of_repeater = repeater_tally [];
    }

-- what these lines of a station and these of a repeater say, and the most frames in a row that the station sent
abbrev pub tally_from : Bool → Bool → List LogLine → List LogLine → ℕ → Tally
tally_from station repeater own repeating longest =
    record {
      station = station;
      repeater = repeater;
      of_station = station_tally own;
      longest = longest;
      of_repeater = repeater_tally repeating;
    }

-- what the lines of this name say
abbrev pub name_tally : List LogLine → List ℕ → Tally
name_tally lines name =
    tally_from (list_any (is_of_station name) lines) (list_any (is_of_repeater_named name) lines)
    (filter (is_of_station name) lines) (filter (is_of_repeater_named name) lines) (longest_row name (senders lines))

-- what lines of a station count, with one more line of this body at t
abbrev pub with_station_line : StationTally → ℕ → Body → StationTally
with_station_line c t (Sent frame start attempt) =
    record c { sent = c.sent + 1; half_bits = c.half_bits + sending_time t (Sent frame start attempt) }
with_station_line c t (Collided frame start attempt hit drawn) =
    record c {
      collided = c.collided + 1;
      half_bits = c.half_bits + sending_time t (Collided frame start attempt hit drawn);
    }
with_station_line c t (GivenUp frame start hit) =
    record c { given_up = c.given_up + 1; half_bits = c.half_bits + sending_time t (GivenUp frame start hit) }
with_station_line c t (Cut frame start attempt hit) =
    record c { cut = c.cut + 1; half_bits = c.half_bits + sending_time t (Cut frame start attempt hit) }
with_station_line c t (Received octets) = record c { received = c.received + 1 }
with_station_line c t (Dropped why halves) = record c { dropped = c.dropped + 1 }
with_station_line c t _ = c

-- what lines of a repeater count, with one more line of this body
abbrev pub with_repeater_line : RepeaterTally → Body → RepeaterTally
with_repeater_line c Clash = record c { clash = c.clash + 1 }
with_repeater_line c (Closed port) = record c { closed = c.closed + 1 }
with_repeater_line c (Opened port) = record c { opened = c.opened + 1 }
with_repeater_line c (Halted port) = record c { halted = c.halted + 1 }
with_repeater_line c _ = c

-- a tally with one more line in front, at t, after which so many Sent lines in a row are of its name
abbrev pub with_body : Tally → ℕ → Body → ℕ → Tally
with_body tally t body row =
    if is_of_repeater body
    then record tally { repeater = true; of_repeater = with_repeater_line tally.of_repeater body }
    else record tally {
      station = true;
      of_station = with_station_line tally.of_station t body;
      longest = if is_sent_body body then max row tally.longest else tally.longest;
    }

-- the tally of a name
abbrev pub tally_at : BTreeMap (Bor (List ℕ)) Tally → List ℕ → Tally
tally_at tallies name = unwrap_or (get_by (λ k. slice_cmp nat_cmp name k.now) tallies) empty_tally

-- the tallies are those of the lines
abbrev pub AreTalliesOf : List LogLine → BTreeMap (Bor (List ℕ)) Tally → Type 0
AreTalliesOf lines tallies = (name : List ℕ) → tally_at tallies name ≡ name_tally lines name

-- the names of the Sent lines begin with so many of this name in a row, and not with another one
abbrev pub IsRow : List ℕ → ℕ → List (List ℕ) → Type 0
IsRow name row names = (other : List ℕ) → prefix_len (bytes_eq other) names ≡ (if bytes_eq other name then row else 0)

-- who sent the frames with which lines begin, and how many in a row, with one more line in front
abbrev pub row_after : List ℕ × ℕ → LogLine → List ℕ × ℕ
row_after row l =
    if is_sent_body l.body then (l.name, (if bytes_eq l.name row.0 then row.1 else 0) + 1) else row

-- the figures of a station, from the tally of its name
abbrev pub figures_of_station : List ℕ → Tally → StationFigures
figures_of_station name tally =
    record {
      name = name;
      tally = tally.of_station;
      share = collided_share tally.of_station.sent tally.of_station.collided tally.of_station.given_up;
      longest = tally.longest;
    }

-- the figures of a repeater, from the tally of its name
abbrev pub figures_of_repeater : List ℕ → Tally → RepeaterFigures
figures_of_repeater name tally = record { name = name; tally = tally.of_repeater }

-- the figures of the station with this name, where there is one
abbrev pub station_named : Bor (List ℕ) × Tally → List StationFigures
station_named e = if e.1.station then figures_of_station e.0.now e.1 ∷ [] else []

-- the figures of the repeater with this name, where there is one
abbrev pub repeater_named : Bor (List ℕ) × Tally → List RepeaterFigures
repeater_named e = if e.1.repeater then figures_of_repeater e.0.now e.1 ∷ [] else []

-- the figures of the stations among these names
abbrev pub stations_named : List (Bor (List ℕ) × Tally) → List StationFigures
stations_named entries = flat_map station_named entries

-- the figures of the repeaters among these names
abbrev pub repeaters_named : List (Bor (List ℕ) × Tally) → List RepeaterFigures
repeaters_named entries = flat_map repeater_named entries
