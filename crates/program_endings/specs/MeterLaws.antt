-- What each status says of the form meter LOG: laws of every answer (profile).
use Rattle.std.specs.Prelude.{◌≡◌, ◌⊎◌, List, Some, IfSome}
use Rattle.log_meter.specs.declared.line.LogLine.{LogLine}
use Rattle.outside.specs.Files.{IsAbsent, Rose}
use Rattle.program_endings.specs.Endings.{IsLogFaultSaid}
use Rattle.program_endings.specs.Meters.{HasLog, IsFaultyLog}
use Rattle.program_words.specs.Requests.{asked}
use Rattle.program_endings.specs.StatusLaws.{OfAnswers}
use Rattle.program_endings.specs.Statuses.{IfMeter, IsDoneOrMemory, IsFaultStatus, IsMeterCut, IsLogWith, IsUnreadOrMemory}

-- with status 8 the log held at entry has a fault, and its line was said
abbrev pub AreLogFaultsSaid : Type 0
AreLogFaultsSaid =
    OfAnswers (λ words entry exit status.
    status ≡ 8 → IsLogWith (asked words) (λ log. IsLogFaultSaid log entry exit))

-- where the log held at entry has a fault the status is 8, but for a failed read and want of memory
abbrev pub DoLogFaultsDecide : Type 0
DoLogFaultsDecide =
    OfAnswers (λ words entry exit status.
    IfMeter (asked words) (λ log.
    IfSome entry.held (λ files.
    IsFaultyLog log (Some files) → IsFaultStatus 8 status entry.reads exit.reads)))

-- where the log isn't held the status is 4, but for want of memory
abbrev pub DoAbsentLogsDecide : Type 0
DoAbsentLogsDecide =
    OfAnswers (λ words entry exit status.
    IfMeter (asked words) (λ log. IsAbsent log entry.held → IsUnreadOrMemory status))

-- with status 5 of meter a write to the sink failed, which got a front of the text
abbrev pub AreMetersCutShort : Type 0
AreMetersCutShort =
    OfAnswers (λ words entry exit status.
    status ≡ 5 → IfMeter (asked words) (λ log. Rose entry.faults exit.faults × IsMeterCut log entry exit))

-- with status 6 of meter the sink is as at entry, or got a front of the text
abbrev pub AreMetersRefused : Type 0
AreMetersRefused =
    OfAnswers (λ words entry exit status.
    status ≡ 6 → IfMeter (asked words) (λ log. (exit.written ≡ entry.written) ⊎ IsMeterCut log entry exit))

-- meter leaves every file as at entry
abbrev pub DoMetersKeepFiles : Type 0
DoMetersKeepFiles =
    OfAnswers (λ words entry exit status. IfMeter (asked words) (λ log. exit.held ≡ entry.held))

-- meter of a log that is held without fault has the status 0 or 6 where no read and no write to the sink failed
abbrev pub AreMetersComplete : Type 0
AreMetersComplete =
    OfAnswers (λ words entry exit status.
    IfMeter (asked words) (λ log.
    IfSome entry.held (λ files.
    (lines : List LogLine) → HasLog log (Some files) lines
    → ¬ Rose entry.reads exit.reads → ¬ Rose entry.faults exit.faults → IsDoneOrMemory status)))
