-- What each status says of the form frames LAYOUT LOG: laws of every answer (profile). Lines count from 1.
use Rattle.std.specs.Prelude.{◌≡◌, ◌⊎◌, ℕ, Some, IfSome}
use Rattle.outside.specs.Files.{IsAbsent, Rose}
use Rattle.program_words.specs.Requests.{asked}
use Rattle.program_endings.specs.FrameTables.{HasUnplanned, IsPlannedLog}
use Rattle.program_endings.specs.Meters.{IsFaultyLog}
use Rattle.program_endings.specs.StatusLaws.{OfAnswers}
use Rattle.program_endings.specs.Statuses.{IfFrames, IsDoneOrMemory, IsFaultStatus, IsPlannedWith, IsTableCut, IsUnreadOrMemory}

-- where the layout, the loads and the log held at entry have no fault and a line of the log names what their plan lacks
-- the status is 11, but for a failed read and want of memory
abbrev pub DoUnplannedDecide : Type 0
DoUnplannedDecide =
    OfAnswers (λ words entry exit status.
    IfFrames (asked words) (λ layout log.
    IfSome entry.held (λ files.
    IsPlannedWith layout (Some files) (λ plan. (n : ℕ) × HasUnplanned plan log (Some files) n)
    → IsFaultStatus 11 status entry.reads exit.reads)))

-- where the layout and the loads held at entry have no fault and the log has one the status is 8, but for a failed read
-- and want of memory
abbrev pub DoTabledLogFaultsDecide : Type 0
DoTabledLogFaultsDecide =
    OfAnswers (λ words entry exit status.
    IfFrames (asked words) (λ layout log.
    IfSome entry.held (λ files.
    IsPlannedWith layout (Some files) (λ plan. IsFaultyLog log (Some files))
    → IsFaultStatus 8 status entry.reads exit.reads)))

-- where the layout and the loads held at entry have no fault and the log isn't held the status is 4, but for want of
-- memory
abbrev pub DoTabledAbsentLogsDecide : Type 0
DoTabledAbsentLogsDecide =
    OfAnswers (λ words entry exit status.
    IfFrames (asked words) (λ layout log.
    IfSome entry.held (λ files.
    IsPlannedWith layout (Some files) (λ plan. IsAbsent log (Some files)) → IsUnreadOrMemory status)))

-- with status 5 of frames a write to the sink failed, which got a front of the table
abbrev pub AreTablesCutShort : Type 0
AreTablesCutShort =
    OfAnswers (λ words entry exit status.
    status ≡ 5
    → IfFrames (asked words) (λ layout log. Rose entry.faults exit.faults × IsTableCut layout log entry exit))

-- with status 6 of frames the sink is as at entry, or got a front of the table
abbrev pub AreTablesRefused : Type 0
AreTablesRefused =
    OfAnswers (λ words entry exit status.
    status ≡ 6
    → IfFrames (asked words) (λ layout log.
    (exit.written ≡ entry.written) ⊎ IsTableCut layout log entry exit))

-- frames leaves every file as at entry
abbrev pub DoTablesKeepFiles : Type 0
DoTablesKeepFiles =
    OfAnswers (λ words entry exit status. IfFrames (asked words) (λ layout log. exit.held ≡ entry.held))

-- frames of a layout, of loads and of a log that are held without fault, no line of which names what their plan lacks,
-- has the status 0 or 6 where no read and no write to the sink failed
abbrev pub AreTablesComplete : Type 0
AreTablesComplete =
    OfAnswers (λ words entry exit status.
    IfFrames (asked words) (λ layout log.
    IfSome entry.held (λ files.
    IsPlannedWith layout (Some files) (λ plan. IsPlannedLog plan log (Some files))
    → ¬ Rose entry.reads exit.reads → ¬ Rose entry.faults exit.faults → IsDoneOrMemory status)))
