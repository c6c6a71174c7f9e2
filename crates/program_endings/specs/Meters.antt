-- What the octets of a log are to the forms meter, picture and frames (profile). Lines count from 1.
use Rattle.std.specs.Prelude.{◌<◌, ◌≤◌, ℕ, List, length, Option}
use Rattle.log_meter.specs.FigureTexts.{IsFiguresText}
use Rattle.log_meter.specs.Logs.{IsBadAt, IsFallingAt, IsLogOf, most_log_octets}
use Rattle.log_meter.specs.declared.fault.LogFault.{LogFault}
use Rattle.log_meter.specs.declared.fault.LogFault.TheVariants as fault
use Rattle.log_meter.specs.declared.line.LogLine.{LogLine}
use Rattle.outside.specs.Files.{Files}
use Rattle.run_endings.specs.Reading.{IsFront}

-- these octets, read whole or up to one past the most that a log may have, have this fault
abbrev pub IsFaultOfLog : List ℕ → LogFault → Type 0
IsFaultOfLog octets fault.TooLarge = most_log_octets < length octets
IsFaultOfLog octets (fault.BadLine n) = (length octets ≤ most_log_octets) × IsBadAt n octets
IsFaultOfLog octets (fault.Order n) = (length octets ≤ most_log_octets) × IsFallingAt n octets
IsFaultOfLog octets fault.OutOfMemory = ⊥

-- where the store tells its files, these are the octets of the log that are read: all of them, or up to one past the
-- most that a log may have
abbrev pub IsReadLog : List ℕ → Option Files → List ℕ → Type 0
IsReadLog log held octets = IsFront most_log_octets log held octets

-- the log has this fault
pub record HasLogFault (log : List ℕ) (held : Option Files) (f : LogFault) : Type 0 where
  pub octets : List ℕ
  pub read : IsReadLog log held octets
  pub faulty : IsFaultOfLog octets f

-- the log has a fault
abbrev pub IsFaultyLog : List ℕ → Option Files → Type 0
IsFaultyLog log held = (f : LogFault) × HasLogFault log held f

-- the log has no fault, and these are its lines
pub record HasLog (log : List ℕ) (held : Option Files) (lines : List LogLine) : Type 0 where
  pub octets : List ℕ
  pub read : IsReadLog log held octets
  pub few : length octets ≤ most_log_octets
  pub log_of : IsLogOf octets lines

-- the log has no fault, and this is the text of its figures
pub record IsMeterText (log : List ℕ) (held : Option Files) (text : List ℕ) : Type 0 where
  pub octets : List ℕ
  pub read : IsReadLog log held octets
  pub few : length octets ≤ most_log_octets
  pub figures : IsFiguresText octets text
