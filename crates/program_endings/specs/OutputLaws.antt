-- What status 12 says of the forms that write files, plain, run, stop and resume: laws of every answer (profile).
use Rattle.std.specs.Prelude.{◌≡◌, ℕ, List, true, Some, Ok, IfSome}
use Rattle.layout.specs.declared.lines.Layout.{Layout}
use Rattle.outside.specs.Files.{Files, file_of}
use Rattle.program_words.specs.Requests.{asked}
use Rattle.run_endings.specs.Endings.{IsJudged}
use Rattle.program_endings.specs.StatusLaws.{OfAnswers}
use Rattle.program_endings.specs.Statuses.{HasTakenName, IfLoaded, IsFaultStatus, IsNetworkWith, IsTakenNameSaid, IsWritingWith}
use Rattle.run_endings.specs.WrittenNames.{is_name_of_input}

-- with status 12 the layout held at entry has no fault, a file to be written has its name or that of a load, and the
-- first such name was said
abbrev pub AreOutputFaultsSaid : Type 0
AreOutputFaultsSaid =
    OfAnswers (λ words entry exit status.
    status ≡ 12
    → IsWritingWith (asked words) (λ layout outputs.
    IsNetworkWith layout entry.held (λ network. IsTakenNameSaid layout outputs network entry exit)))

-- where the layout held at entry has no fault and a file to be written has its name or that of a load the status is 12,
-- whatever is held of the loads, but for a failed read and want of memory
abbrev pub DoOutputFaultsDecide : Type 0
DoOutputFaultsDecide =
    OfAnswers (λ words entry exit status.
    IfLoaded (asked words) (λ layout outputs.
    IfSome entry.held (λ files.
    HasTakenName layout outputs (Some files) → IsFaultStatus 12 status entry.reads exit.reads)))

-- whatever the status, the layout, where it has no fault at entry, and each of its loads are at exit what they were at
-- entry, in a store that tells its files at both
abbrev pub AreInputsKept : Type 0
AreInputsKept =
    OfAnswers (λ words entry exit status.
    IfLoaded (asked words) (λ layout outputs.
    IfSome entry.held (λ files.
    (now : Files) → exit.held ≡ Some now → (network : Layout) → IsJudged layout (Some files) (Ok network)
    → (name : List ℕ) → is_name_of_input layout network name ≡ true → file_of name now ≡ file_of name files)))
