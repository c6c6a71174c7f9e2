-- Figures from a log: what each device did, and who got how much of the channel (profile). Half bits count from 0.
use Rattle.std.specs.Prelude.{◌≡◌, ◌↔◌, ℕ, ◌+◌, ◌-◌, ◌*◌, ◌/◌, ◌==◌, ◌&&◌, max, not, Bool, true, false, if◌then◌else◌, List, [], ◌∷◌, map, filter, length, All, Contains}
use Rattle.std.specs.Cmp.Lexicographic.{slice_cmp}
use Rattle.std.specs.List.{list_any, prefix_len}
use Rattle.std.specs.List.Sorted.{IsStrictlySortedBy}
use Rattle.std.specs.Ordering.{nat_cmp}
use Rattle.std.specs.Str.{bytes_eq}
use Rattle.collision_log.specs.declared.row.Body.{Body}
use Rattle.collision_log.specs.declared.row.Body.TheVariants.{Sent, Collided, GivenUp, Cut, Received, Dropped, Clash, Closed, Opened, Halted}
use Rattle.log_meter.specs.declared.device_figures.Figures.{Figures}
use Rattle.log_meter.specs.declared.device_figures.RepeaterFigures.{RepeaterFigures}
use Rattle.log_meter.specs.declared.device_figures.RepeaterTally.{RepeaterTally}
use Rattle.log_meter.specs.declared.device_figures.StationFigures.{StationFigures}
use Rattle.log_meter.specs.declared.device_figures.StationTally.{StationTally}
use Rattle.log_meter.specs.declared.line.LogLine.{LogLine}

-- whether what happened is a sending that succeeded
abbrev pub is_sent_body : Body → Bool
is_sent_body (Sent frame start attempt) = true
is_sent_body _ = false

-- whether it is a collision after which a further attempt comes
abbrev pub is_collided : Body → Bool
is_collided (Collided frame start attempt hit drawn) = true
is_collided _ = false

-- whether it is a collision after which the frame is given up
abbrev pub is_given_up : Body → Bool
is_given_up (GivenUp frame start hit) = true
is_given_up _ = false

-- whether it is a sending that the end of the run cut
abbrev pub is_cut : Body → Bool
is_cut (Cut frame start attempt hit) = true
is_cut _ = false

-- whether it is a reception
abbrev pub is_received : Body → Bool
is_received (Received octets) = true
is_received _ = false

-- whether it is a reception that was dropped
abbrev pub is_dropped : Body → Bool
is_dropped (Dropped why halves) = true
is_dropped _ = false

-- whether it is a collision at a repeater
abbrev pub is_clash : Body → Bool
is_clash Clash = true
is_clash _ = false

-- whether it is the partition of a port
abbrev pub is_closed : Body → Bool
is_closed (Closed port) = true
is_closed _ = false

-- whether it is the reconnection of a port
abbrev pub is_opened : Body → Bool
is_opened (Opened port) = true
is_opened _ = false

-- whether it is the halt of a port, by jabber lockup protection
abbrev pub is_halted : Body → Bool
is_halted (Halted port) = true
is_halted _ = false

-- for how many half bits a sending went on that ended in half bit t
abbrev pub sending_time : ℕ → Body → ℕ
sending_time t (Sent frame start attempt) = t - start
sending_time t (Collided frame start attempt hit drawn) = t - start
sending_time t (GivenUp frame start hit) = t - start
sending_time t (Cut frame start attempt hit) = t - start
sending_time t _ = 0

-- for how many half bits the sendings of these lines went on, added up
abbrev pub sending_times : List LogLine → ℕ
sending_times [] = 0
sending_times (l ∷ ls) = sending_time l.t l.body + sending_times ls

-- how many of these lines are of this kind
abbrev pub kind_count : (Body → Bool) → List LogLine → ℕ
kind_count is_kind lines = length (filter (λ l. is_kind l.body) lines)

-- whether a line is of the station with this name
abbrev pub is_of_station : List ℕ → LogLine → Bool
is_of_station name l = not l.repeater && bytes_eq name l.name

-- whether a line is of the repeater with this name
abbrev pub is_of_repeater_named : List ℕ → LogLine → Bool
is_of_repeater_named name l = l.repeater && bytes_eq name l.name

-- of each thousand sendings that came to an end by themselves, how many met a collision; 0 where there are none
abbrev pub collided_share : ℕ → ℕ → ℕ → ℕ
collided_share sent collided given_up =
    if sent + collided + given_up == 0 then 0 else (collided + given_up) * 1000 / (sent + collided + given_up)

-- who sent the frames of a log, in the order of their ends
abbrev pub senders : List LogLine → List (List ℕ)
senders lines = map (λ l. l.name) (filter (λ l. is_sent_body l.body) lines)

-- the most frames in a row that this one sent: over all places, how many from there on are its own
abbrev pub longest_row : List ℕ → List (List ℕ) → ℕ
longest_row name [] = 0
longest_row name (s ∷ ss) = max (prefix_len (bytes_eq name) (s ∷ ss)) (longest_row name ss)

-- what these lines of a station count
abbrev pub station_tally : List LogLine → StationTally
station_tally own =
    record {
      sent = kind_count is_sent_body own;
      collided = kind_count is_collided own;
      given_up = kind_count is_given_up own;
      cut = kind_count is_cut own;
      received = kind_count is_received own;
      dropped = kind_count is_dropped own;
      half_bits = sending_times own;
    }

-- what these lines of a repeater count
abbrev pub repeater_tally : List LogLine → RepeaterTally
repeater_tally own =
    record {
      clash = kind_count is_clash own;
      closed = kind_count is_closed own;
      opened = kind_count is_opened own;
      halted = kind_count is_halted own;
    }

-- the figures of a station
abbrev pub station_figures : List LogLine → List ℕ → StationFigures
station_figures lines name =
    let own = filter (is_of_station name) lines in
    record {
      name = name;
      tally = station_tally own;
      share = collided_share (kind_count is_sent_body own) (kind_count is_collided own) (kind_count is_given_up own);
      longest = longest_row name (senders lines);
    }

-- the figures of a repeater
abbrev pub repeater_figures : List LogLine → List ℕ → RepeaterFigures
repeater_figures lines name =
    record { name = name; tally = repeater_tally (filter (is_of_repeater_named name) lines) }

-- the names, in order of their octets, are those with which a line of the log passes the test
pub record AreNamesOf (test : List ℕ → LogLine → Bool) (lines : List LogLine) (names : List (List ℕ)) : Type 0 where
  pub order : IsStrictlySortedBy (slice_cmp nat_cmp) names
  pub named : (name : List ℕ) → Contains names name ↔ (list_any (test name) lines ≡ true)

-- these are the figures of the stations and repeaters that the log names, each once, in order of their names
pub record AreFigures (lines : List LogLine) (figures : Figures) : Type 0 where
  pub stations : AreNamesOf is_of_station lines (map (λ f. f.name) figures.stations)
  pub repeaters : AreNamesOf is_of_repeater_named lines (map (λ f. f.name) figures.repeaters)
  pub of_stations : All (λ f. f ≡ station_figures lines f.name) figures.stations
  pub of_repeaters : All (λ f. f ≡ repeater_figures lines f.name) figures.repeaters
