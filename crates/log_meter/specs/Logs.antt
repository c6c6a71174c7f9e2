-- Logs, by how they are written, and the first fault of octets that are none (profile). Half bits count from 0, lines
-- from 1.
use Rattle.std.specs.Prelude.{◌≡◌, ◌≢◌, ℕ, ◌+◌, ◌<◌, ◌≤◌, List, [], ◌∷◌, ◌++◌, length, Result, Ok, Err, ⊤, ◌⊎◌}
use Rattle.std.specs.List.{flat_map, AllByRecursion}
use Rattle.log_meter.specs.Lines.{IsLogLine, entry_text}
use Rattle.log_meter.specs.declared.fault.LogFault.{LogFault}
use Rattle.log_meter.specs.declared.fault.LogFault.TheVariants as fault
use Rattle.log_meter.specs.declared.line.LogLine.{LogLine}

-- the most octets of a log
abbrev pub most_log_octets : ℕ
most_log_octets = 268435456

-- the text of a log
abbrev pub log_text : List LogLine → List ℕ
log_text lines = flat_map entry_text lines

-- the half bit of the last line, and t where there is none
abbrev pub last_half_bit : ℕ → List LogLine → ℕ
last_half_bit t [] = t
last_half_bit t (l ∷ ls) = last_half_bit l.t ls

-- no line is of an earlier half bit than the line before, nor the first of an earlier one than t
abbrev pub NeverFalls : ℕ → List LogLine → Type 0
NeverFalls t [] = ⊤
NeverFalls t (l ∷ ls) = (t ≤ l.t) × NeverFalls l.t ls

-- lines of the grammar whose half bits never fall
pub record IsLog (lines : List LogLine) : Type 0 where
  pub grammar : AllByRecursion IsLogLine lines
  pub order : NeverFalls 0 lines

-- the octets are the text of this log
pub record IsLogOf (octets : List ℕ) (lines : List LogLine) : Type 0 where
  pub log : IsLog lines
  pub text : octets ≡ log_text lines

-- no line of the grammar stands in front, with its line feed
abbrev pub HasNoLine : List ℕ → Type 0
HasNoLine octets = (l : LogLine) (more : List ℕ) → IsLogLine l → octets ≢ entry_text l ++ more

-- the octets begin with the text of a log, and then, in line n, something else than a line stands
pub record IsBadAt (n : ℕ) (octets : List ℕ) : Type 0 where
  pub front : List LogLine
  pub rest : List ℕ
  pub log : IsLog front
  pub text : octets ≡ log_text front ++ rest
  pub more : rest ≢ []
  pub bad : HasNoLine rest
  pub number : n ≡ length front + 1

-- the octets begin with the text of a log, and then line n is of an earlier half bit than the line before
pub record IsFallingAt (n : ℕ) (octets : List ℕ) : Type 0 where
  pub front : List LogLine
  pub line : LogLine
  pub rest : List ℕ
  pub log : IsLog front
  pub grammar : IsLogLine line
  pub text : octets ≡ log_text front ++ (entry_text line ++ rest)
  pub falls : line.t < last_half_bit 0 front
  pub number : n ≡ length front + 1

-- what octets are that aren't too many: a log, or octets with this first fault
abbrev pub IsJudgedLog : List ℕ → Result (List LogLine) LogFault → Type 0
IsJudgedLog octets (Ok lines) = IsLogOf octets lines
IsJudgedLog octets (Err fault.TooLarge) = ⊥
IsJudgedLog octets (Err (fault.BadLine n)) = IsBadAt n octets
IsJudgedLog octets (Err (fault.Order n)) = IsFallingAt n octets
IsJudgedLog octets (Err fault.OutOfMemory) = ⊥

-- the answer is this, unless memory ran out
abbrev pub IsUnlessMemory : Result (List LogLine) LogFault → Result (List LogLine) LogFault → Type 0
IsUnlessMemory answer judged = (answer ≡ judged) ⊎ (answer ≡ Err fault.OutOfMemory)
