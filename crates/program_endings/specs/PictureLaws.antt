-- What each status says of the form picture LAYOUT LOG FROM TO, and status 11 of frames LAYOUT LOG too: laws of every
-- answer (profile). Lines count from 1.
use Rattle.std.specs.Prelude.{◌≡◌, ◌⊎◌, ℕ, List, None, Some, IfSome}
use Rattle.outside.specs.Files.{IsAbsent, Rose}
use Rattle.log_meter.specs.declared.line.LogLine.{LogLine}
use Rattle.program_words.specs.Requests.{asked}
use Rattle.run_picture.specs.Strangers.{first_stranger}
use Rattle.program_endings.specs.Meters.{HasLog, IsFaultyLog}
use Rattle.program_endings.specs.StatusLaws.{OfAnswers}
use Rattle.program_endings.specs.Statuses.{HasStranger, IfPicture, IsComparedWith, IsDoneOrMemory, IsFaultStatus, IsNetworkWith, IsPictureCut, IsPlannedWith, IsStrangerSaid, IsUnplannedSaid, IsUnreadOrMemory}

-- with status 11 of picture the layout and the log held at entry have no fault, and a line of the log names what the
-- layout lacks; of frames they and the loads have none, and a line names what their plan lacks; the first such line was
-- said
abbrev pub AreStrangersSaid : Type 0
AreStrangersSaid =
    OfAnswers (λ words entry exit status.
    status ≡ 11
    → IsComparedWith (asked words)
    (λ layout log. IsNetworkWith layout entry.held (λ network. IsStrangerSaid network log entry exit))
    (λ layout log. IsPlannedWith layout entry.held (λ plan. IsUnplannedSaid plan log entry exit)))

-- where the layout and the log held at entry have no fault and a line of the log names what the layout lacks the
-- status is 11, but for a failed read and want of memory
abbrev pub DoStrangersDecide : Type 0
DoStrangersDecide =
    OfAnswers (λ words entry exit status.
    IfPicture (asked words) (λ layout log from to.
    IfSome entry.held (λ files.
    (n : ℕ) → IsNetworkWith layout (Some files) (λ network. HasStranger network log (Some files) n)
    → IsFaultStatus 11 status entry.reads exit.reads)))

-- where the layout held at entry has no fault and the log has one the status is 8, but for a failed read and want of
-- memory
abbrev pub DoPicturedLogFaultsDecide : Type 0
DoPicturedLogFaultsDecide =
    OfAnswers (λ words entry exit status.
    IfPicture (asked words) (λ layout log from to.
    IfSome entry.held (λ files.
    IsNetworkWith layout (Some files) (λ network. IsFaultyLog log (Some files))
    → IsFaultStatus 8 status entry.reads exit.reads)))

-- where the layout held at entry has no fault and the log isn't held the status is 4, but for want of memory
abbrev pub DoPicturedAbsentLogsDecide : Type 0
DoPicturedAbsentLogsDecide =
    OfAnswers (λ words entry exit status.
    IfPicture (asked words) (λ layout log from to.
    IfSome entry.held (λ files.
    IsNetworkWith layout (Some files) (λ network. IsAbsent log (Some files)) → IsUnreadOrMemory status)))

-- with status 5 of picture a write to the sink failed, which got a front of the picture
abbrev pub ArePicturesCutShort : Type 0
ArePicturesCutShort =
    OfAnswers (λ words entry exit status.
    status ≡ 5
    → IfPicture (asked words) (λ layout log from to.
    Rose entry.faults exit.faults × IsPictureCut layout log from to entry exit))

-- with status 6 of picture the sink is as at entry, or got a front of the picture
abbrev pub ArePicturesRefused : Type 0
ArePicturesRefused =
    OfAnswers (λ words entry exit status.
    status ≡ 6
    → IfPicture (asked words) (λ layout log from to.
    (exit.written ≡ entry.written) ⊎ IsPictureCut layout log from to entry exit))

-- picture leaves every file as at entry
abbrev pub DoPicturesKeepFiles : Type 0
DoPicturesKeepFiles =
    OfAnswers (λ words entry exit status. IfPicture (asked words) (λ layout log from to. exit.held ≡ entry.held))

-- a picture of a layout and a log that are held without fault, no line of which names what the layout lacks, has the
-- status 0 or 6 where no read and no write to the sink failed
abbrev pub ArePicturesComplete : Type 0
ArePicturesComplete =
    OfAnswers (λ words entry exit status.
    IfPicture (asked words) (λ layout log from to.
    IfSome entry.held (λ files.
    (lines : List LogLine) → HasLog log (Some files) lines
    → IsNetworkWith layout (Some files) (λ network. first_stranger network lines ≡ None)
    → ¬ Rose entry.reads exit.reads → ¬ Rose entry.faults exit.faults → IsDoneOrMemory status)))
