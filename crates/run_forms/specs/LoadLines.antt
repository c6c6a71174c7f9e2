-- What is said of the load of a station, numbered from 0 (profile).
use Rattle.std.specs.Prelude.{◌≡◌, ℕ, List, Some, option_map, slice_get}
use Rattle.capture_file.specs.declared.fault.CaptureFault.{CaptureFault}
use Rattle.layout.specs.declared.lines.StationLine.{StationLine}
use Rattle.load_files.specs.Loaded.{load_of}
use Rattle.program_texts.specs.Texts.{line_of_load_fault, line_of_read_fault}

-- the line says that the load of this station has a fault
abbrev pub IsLineOfFaultyLoad : List StationLine → ℕ → CaptureFault → List ℕ → Type 0
IsLineOfFaultyLoad stations station fault line =
    (name : List ℕ) × (option_map (λ s. s.name) (slice_get stations station) ≡ Some name)
    × (line ≡ line_of_load_fault name fault)

-- the line says that the load of this station can't be read
abbrev pub IsLineOfUnreadLoad : List StationLine → ℕ → List ℕ → Type 0
IsLineOfUnreadLoad stations station line =
    (name : List ℕ) × (load_of stations station ≡ Some name) × (line ≡ line_of_read_fault name)
