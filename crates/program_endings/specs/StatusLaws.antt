-- What each status says beyond the clauses of the top call: laws of every answer (profile).
use Rattle.std.specs.Prelude.{◌≡◌, ◌⊎◌, ℕ, List, Some, Ok, IfSome}
use Rattle.capture_file.specs.declared.fault.CaptureFault.{CaptureFault}
use Rattle.outside.specs.Files.{IsAbsent, Rose}
use Rattle.layout.specs.declared.lines.Layout.{Layout}
use Rattle.program_endings.specs.Answers.{IsAnswer}
use Rattle.run_endings.specs.Endings.{HasFault, IsFaultSaid, IsJudged, IsLoadFaultSaid, Says}
use Rattle.run_endings.specs.Answers.{IsRunFormAnswer}
use Rattle.run_endings.specs.Moments.{Moment}
use Rattle.program_words.specs.Requests.{asked}
use Rattle.program_endings.specs.Statuses.{AreRunFilesHeld, HasAbsentLoad, HasLoadFault, IfDemo, IfLayout, IfLoaded, IfTelling, IfText, IsDemoCut, IsDemoStatus, IsDoneOrMemory, IsFaultStatus, IsLayoutWith, IsLoadedWith, IsNetworkWith, IsReadFaultSaid, IsTellingCut, IsUnreadOrMemory}
use Rattle.run_endings.specs.Done.{IfFiles}
use Rattle.program_texts.specs.Texts.{line_of_words_fault}
use Rattle.run_endings.specs.Writing.{IsCutShort}

-- this holds of the answer of every call
abbrev pub OfAnswers : (List (List ℕ) → Moment → Moment → ℕ → Type 0) → Type 0
OfAnswers P =
    (words : List (List ℕ)) (entry exit : Moment) (status : ℕ) → IsAnswer words entry exit status
    → P words entry exit status

-- with status 1 the line of words that are none of the forms was said
abbrev pub AreWordsSaid : Type 0
AreWordsSaid = OfAnswers (λ words entry exit status. status ≡ 1 → Says line_of_words_fault entry exit)

-- with status 2 the layout held at entry has a fault, and its line was said
abbrev pub AreLayoutFaultsSaid : Type 0
AreLayoutFaultsSaid =
    OfAnswers (λ words entry exit status.
    status ≡ 2 → IsLayoutWith (asked words) (λ layout. IsFaultSaid layout entry exit))

-- where the layout held at entry has a fault the status is 2, but for a failed read and want of memory
abbrev pub DoLayoutFaultsDecide : Type 0
DoLayoutFaultsDecide =
    OfAnswers (λ words entry exit status.
    IfLayout (asked words) (λ layout.
    IfSome entry.held (λ files. HasFault layout (Some files) → IsFaultStatus 2 status entry.reads exit.reads)))

-- where the layout isn't held the status is 4, but for want of memory
abbrev pub DoAbsentLayoutsDecide : Type 0
DoAbsentLayoutsDecide =
    OfAnswers (λ words entry exit status.
    IfLayout (asked words) (λ layout. IsAbsent layout entry.held → IsUnreadOrMemory status))

-- with status 3 the layout held at entry has no fault, one of its loads, in the order of the stations, is the first
-- with a fault, and its line was said
abbrev pub AreLoadFaultsSaid : Type 0
AreLoadFaultsSaid =
    OfAnswers (λ words entry exit status.
    status ≡ 3
    → IsLoadedWith (asked words) (λ layout.
    IsNetworkWith layout entry.held (λ network. IsLoadFaultSaid network entry exit)))

-- where no file to be written has the name of an input and a load of a layout without fault is the first with a fault
-- the status is 3, but for a failed read and want of memory
abbrev pub DoLoadFaultsDecide : Type 0
DoLoadFaultsDecide =
    OfAnswers (λ words entry exit status.
    IfLoaded (asked words) (λ layout outputs.
    IfSome entry.held (λ files.
    (station : ℕ) (f : CaptureFault) → HasLoadFault layout outputs (Some files) station f
    → IsFaultStatus 3 status entry.reads exit.reads)))

-- where no file to be written has the name of an input and a load of a layout without fault is the first that isn't
-- held the status is 4, but for want of memory
abbrev pub DoAbsentLoadsDecide : Type 0
DoAbsentLoadsDecide =
    OfAnswers (λ words entry exit status.
    IfLoaded (asked words) (λ layout outputs.
    IfSome entry.held (λ files.
    (name : List ℕ) → HasAbsentLoad layout outputs (Some files) name → IsUnreadOrMemory status)))

-- with status 4 a file to be read isn't held, or a read failed, and its name was said
abbrev pub AreReadFaultsSaid : Type 0
AreReadFaultsSaid =
    OfAnswers (λ words entry exit status. status ≡ 4 → IsReadFaultSaid (asked words) entry exit)

-- with status 5 all files of a run are whole where no write to the store failed
abbrev pub AreFilesWhole : Type 0
AreFilesWhole =
    OfAnswers (λ words entry exit status.
    status ≡ 5 → ¬ Rose entry.writes exit.writes
    → IfFiles (asked words) (λ layout prefix. AreRunFilesHeld layout prefix entry exit))

-- with status 5 of a run the sink is as at entry where no write to it failed
abbrev pub AreFailuresSilent : Type 0
AreFailuresSilent =
    OfAnswers (λ words entry exit status.
    status ≡ 5 → ¬ Rose entry.faults exit.faults
    → IfFiles (asked words) (λ layout prefix. exit.written ≡ entry.written))

-- with status 5 of a form that only tells of a layout a write to the sink failed, which got a front of the text
abbrev pub AreTellingsCutShort : Type 0
AreTellingsCutShort =
    OfAnswers (λ words entry exit status.
    status ≡ 5
    → IfTelling (asked words) (λ Tells layout.
    Rose entry.faults exit.faults × IsTellingCut Tells layout entry exit))

-- with status 6 of a form that only tells of a layout the sink is as at entry, or got a front of the text
abbrev pub AreTellingsRefused : Type 0
AreTellingsRefused =
    OfAnswers (λ words entry exit status.
    status ≡ 6
    → IfTelling (asked words) (λ Tells layout.
    (exit.written ≡ entry.written) ⊎ IsTellingCut Tells layout entry exit))

-- a form that only tells of a layout leaves every file as at entry
abbrev pub DoTellingsKeepFiles : Type 0
DoTellingsKeepFiles =
    OfAnswers (λ words entry exit status. IfTelling (asked words) (λ Tells layout. exit.held ≡ entry.held))

-- a form that only tells of a layout that is held without fault has the status 0 or 6 where no read and no write to the
-- sink failed
abbrev pub AreTellingsComplete : Type 0
AreTellingsComplete =
    OfAnswers (λ words entry exit status.
    IfTelling (asked words) (λ Tells layout.
    IfSome entry.held (λ files.
    (network : Layout) → IsJudged layout (Some files) (Ok network)
    → ¬ Rose entry.reads exit.reads → ¬ Rose entry.faults exit.faults → IsDoneOrMemory status)))

-- demo has the status 0, 5 or 6
abbrev pub HaveDemosStatuses : Type 0
HaveDemosStatuses = OfAnswers (λ words entry exit status. IfDemo (asked words) (λ number. IsDemoStatus status))

-- with status 5 of demo a write to the sink failed, which got a front of the text
abbrev pub AreDemosCutShort : Type 0
AreDemosCutShort =
    OfAnswers (λ words entry exit status.
    status ≡ 5
    → IfDemo (asked words) (λ number. Rose entry.faults exit.faults × IsDemoCut number entry exit))

-- with status 6 of demo the sink is as at entry, or got a front of the text
abbrev pub AreDemosRefused : Type 0
AreDemosRefused =
    OfAnswers (λ words entry exit status.
    status ≡ 6
    → IfDemo (asked words) (λ number. (exit.written ≡ entry.written) ⊎ IsDemoCut number entry exit))

-- demo leaves every file as at entry
abbrev pub DoDemosKeepFiles : Type 0
DoDemosKeepFiles =
    OfAnswers (λ words entry exit status. IfDemo (asked words) (λ number. exit.held ≡ entry.held))

-- demo has the status 0 or 6 where no write to the sink failed
abbrev pub AreDemosComplete : Type 0
AreDemosComplete =
    OfAnswers (λ words entry exit status.
    IfDemo (asked words) (λ number. ¬ Rose entry.faults exit.faults → IsDoneOrMemory status))

-- with status 5 of a form with a fixed text a write to the sink failed
abbrev pub AreTextsFailed : Type 0
AreTextsFailed =
    OfAnswers (λ words entry exit status.
    status ≡ 5 → IfText (asked words) (λ text. Rose entry.faults exit.faults))

-- a form with a fixed text has the status 0, or the sink got a front of the text
abbrev pub AreTextsCutShort : Type 0
AreTextsCutShort =
    OfAnswers (λ words entry exit status.
    IfText (asked words) (λ text. (status ≡ 0) ⊎ IsCutShort text entry.written exit.written))

-- a form with a fixed text leaves every file as at entry
abbrev pub DoTextsKeepFiles : Type 0
DoTextsKeepFiles =
    OfAnswers (λ words entry exit status. IfText (asked words) (λ text. exit.held ≡ entry.held))

-- a form with a fixed text has the status 0 or 6 where no write to the sink failed
abbrev pub AreTextsComplete : Type 0
AreTextsComplete =
    OfAnswers (λ words entry exit status.
    IfText (asked words) (λ text. ¬ Rose entry.faults exit.faults → IsDoneOrMemory status))

-- what the smaller program answers, which has the forms check and plain, is an answer of the whole one
abbrev pub AreSmallerAnswers : Type 0
AreSmallerAnswers =
    (words : List (List ℕ)) (entry exit : Moment) (status : ℕ) → IsRunFormAnswer words entry exit status
    → IsAnswer words entry exit status
