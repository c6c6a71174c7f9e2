-- The texts of figures and of a log's fault (profile).
use Rattle.std.specs.Prelude.{◌≡◌, ℕ, List, ◌++◌, flat_map, length, sum_by, decimal, codes}
use Rattle.log_meter.specs.Faults.{code_of_log_fault, line_of_log_fault, name_of_fault}
use Rattle.log_meter.specs.Figures.{AreFigures}
use Rattle.log_meter.specs.Logs.{IsLogOf}
use Rattle.log_meter.specs.declared.device_figures.Figures.{Figures}
use Rattle.log_meter.specs.declared.device_figures.RepeaterFigures.{RepeaterFigures}
use Rattle.log_meter.specs.declared.device_figures.StationFigures.{StationFigures}
use Rattle.log_meter.specs.declared.fault.LogFault.{LogFault}
use Rattle.log_meter.specs.declared.line.LogLine.{LogLine}

-- the words of a station's frames
unfoldable pub words_of_frames : StationFigures → List ℕ
words_of_frames f =
    codes " sent " ++ decimal f.tally.sent ++ codes " collided " ++ decimal f.tally.collided
    ++ codes " given_up " ++ decimal f.tally.given_up ++ codes " cut " ++ decimal f.tally.cut
    ++ codes " received " ++ decimal f.tally.received ++ codes " dropped " ++ decimal f.tally.dropped

-- the words of how much of the channel a station got
unfoldable pub words_of_channel : StationFigures → List ℕ
words_of_channel f =
    codes " half_bits " ++ decimal f.tally.half_bits ++ codes " share " ++ decimal f.share
    ++ codes " longest " ++ decimal f.longest

-- the line of a station
unfoldable pub line_of_station : StationFigures → List ℕ
line_of_station f = codes "station " ++ f.name ++ words_of_frames f ++ words_of_channel f ++ codes "\n"

-- the line of a repeater
unfoldable pub line_of_repeater : RepeaterFigures → List ℕ
line_of_repeater f =
    codes "repeater " ++ f.name ++ codes " clash " ++ decimal f.tally.clash
    ++ codes " closed " ++ decimal f.tally.closed ++ codes " opened " ++ decimal f.tally.opened
    ++ codes " halted " ++ decimal f.tally.halted ++ codes "\n"

-- the line of the whole log: how many lines it has, and for how many half bits all stations together sent
abbrev pub line_of_log : List LogLine → List StationFigures → List ℕ
line_of_log lines stations =
    codes "rows " ++ decimal (length lines) ++ codes " sending " ++ decimal (sum_by (λ f. f.tally.half_bits) stations)
    ++ codes "\n"

-- the lines of these stations
abbrev pub lines_of_stations : List StationFigures → List ℕ
lines_of_stations stations = flat_map line_of_station stations

-- the lines of these repeaters
abbrev pub lines_of_repeaters : List RepeaterFigures → List ℕ
lines_of_repeaters repeaters = flat_map line_of_repeater repeaters

-- the text of the figures of a log
abbrev pub text_of_figures : List LogLine → Figures → List ℕ
text_of_figures lines figures =
    line_of_log lines figures.stations ++ lines_of_stations figures.stations ++ lines_of_repeaters figures.repeaters

-- the text is that of the figures of these lines
pub record AreFiguresIn (lines : List LogLine) (text : List ℕ) : Type 0 where
  pub figures : Figures
  pub of_lines : AreFigures lines figures
  pub text_is : text ≡ text_of_figures lines figures

-- the text is that of the figures of the log that these octets are
pub record IsFiguresText (octets text : List ℕ) : Type 0 where
  pub lines : List LogLine
  pub log : IsLogOf octets lines
  pub told : AreFiguresIn lines text

-- what is said of a log with a fault
abbrev pub line_of_log_with : LogFault → List ℕ
line_of_log_with fault =
    codes "log fault " ++ decimal (code_of_log_fault fault) ++ codes " " ++ name_of_fault fault ++ codes " line "
    ++ decimal (line_of_log_fault fault) ++ codes "\n"
