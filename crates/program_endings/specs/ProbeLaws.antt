-- What each status says of the forms probe LAYOUT FROM TO TAP .., waves LAYOUT FROM TO TAP .. and page LAYOUT FROM TO,
-- which are all called probes: laws of every answer (profile). Stations count from 0.
use Rattle.std.specs.Prelude.{◌≡◌, ◌⊎◌, ℕ, List, Some, IfSome}
use Rattle.capture_file.specs.declared.entries.Record.{Record}
use Rattle.capture_file.specs.declared.fault.CaptureFault.{CaptureFault}
use Rattle.load_files.specs.Loaded.{IsLoaded, IsFirstAbsent, Faulty, Whole}
use Rattle.outside.specs.Files.{Rose}
use Rattle.program_endings.specs.Probes.{HasAim, HasNoAim}
use Rattle.program_words.specs.Requests.{asked}
use Rattle.program_endings.specs.StatusLaws.{OfAnswers}
use Rattle.program_endings.specs.Statuses.{IfProbe, IsDoneOrMemory, IsFaultStatus, IsMissSaid, IsNetworkWith, IsProbeCut, IsProbeWith, IsUnreadOrMemory}

-- with status 7 the layout held at entry has no fault, what the probe aims at isn't in its network, and that was said
abbrev pub AreMissesSaid : Type 0
AreMissesSaid =
    OfAnswers (λ words entry exit status.
    status ≡ 7
    → IsProbeWith (asked words) (λ told layout to taps.
    IsNetworkWith layout entry.held (λ network. IsMissSaid told network to taps entry exit)))

-- where the layout held at entry has no fault and what the probe aims at isn't in its network the status is 7, but for
-- a failed read and want of memory
abbrev pub DoMissesDecide : Type 0
DoMissesDecide =
    OfAnswers (λ words entry exit status.
    IfProbe (asked words) (λ told layout from to taps.
    IfSome entry.held (λ files.
    IsNetworkWith layout (Some files) (λ network. HasNoAim network to taps)
    → IsFaultStatus 7 status entry.reads exit.reads)))

-- where what the probe aims at is there and a load of the layout is the first with a fault the status is 3, but for a
-- failed read and want of memory
abbrev pub DoProbedLoadFaultsDecide : Type 0
DoProbedLoadFaultsDecide =
    OfAnswers (λ words entry exit status.
    IfProbe (asked words) (λ told layout from to taps.
    IfSome entry.held (λ files.
    (station : ℕ) (f : CaptureFault)
    → IsNetworkWith layout (Some files) (λ network.
    HasAim network to taps × IsLoaded (Some files) network.stations (Faulty station f))
    → IsFaultStatus 3 status entry.reads exit.reads)))

-- where what the probe aims at is there and a load of the layout is the first that isn't held the status is 4, but for
-- want of memory
abbrev pub DoProbedAbsentLoadsDecide : Type 0
DoProbedAbsentLoadsDecide =
    OfAnswers (λ words entry exit status.
    IfProbe (asked words) (λ told layout from to taps.
    IfSome entry.held (λ files.
    (name : List ℕ)
    → IsNetworkWith layout (Some files) (λ network.
    HasAim network to taps × IsFirstAbsent (Some files) network.stations name)
    → IsUnreadOrMemory status)))

-- with status 5 of probe a write to the sink failed, which got a front of the text
abbrev pub AreProbesCutShort : Type 0
AreProbesCutShort =
    OfAnswers (λ words entry exit status.
    status ≡ 5
    → IfProbe (asked words) (λ told layout from to taps.
    Rose entry.faults exit.faults × IsProbeCut told layout from to taps entry exit))

-- with status 6 of probe the sink is as at entry, or got a front of the text
abbrev pub AreProbesRefused : Type 0
AreProbesRefused =
    OfAnswers (λ words entry exit status.
    status ≡ 6
    → IfProbe (asked words) (λ told layout from to taps.
    (exit.written ≡ entry.written) ⊎ IsProbeCut told layout from to taps entry exit))

-- probe leaves every file as at entry
abbrev pub DoProbesKeepFiles : Type 0
DoProbesKeepFiles =
    OfAnswers (λ words entry exit status. IfProbe (asked words) (λ told layout from to taps. exit.held ≡ entry.held))

-- a probe whose layout and loads are held without fault, and which aims at what is there, has the status 0 or 6 where
-- no read and no write to the sink failed
abbrev pub AreProbesComplete : Type 0
AreProbesComplete =
    OfAnswers (λ words entry exit status.
    IfProbe (asked words) (λ told layout from to taps.
    IfSome entry.held (λ files.
    (loads : List (List Record))
    → IsNetworkWith layout (Some files) (λ network.
    HasAim network to taps × IsLoaded (Some files) network.stations (Whole loads))
    → ¬ Rose entry.reads exit.reads → ¬ Rose entry.faults exit.faults → IsDoneOrMemory status)))
