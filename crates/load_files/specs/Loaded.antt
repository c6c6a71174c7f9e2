-- The loads of stations, read from files in the order of the stations (profile). Stations are numbered from 0, and
-- octets are counted.
use Rattle.std.specs.Prelude.{◌≡◌, ◌⊎◌, ℕ, ◌+◌, ◌-◌, min, nat_lt, if◌then◌else◌, List, [], ◌∷◌, ◌++◌, length, drop, Option, None, Some, option_map, slice_get, option_and_then, Result, Ok, Err}
use Rattle.capture_file.specs.Captures.{capture_fault, records}
use Rattle.capture_file.specs.declared.entries.Record.{Record}
use Rattle.capture_file.specs.declared.fault.CaptureFault.{CaptureFault}
use Rattle.capture_file.specs.declared.fault.CaptureFault.TheVariants.{TooLarge}
use Rattle.layout.specs.declared.lines.StationLine.{StationLine}
use Rattle.outside.specs.Files.{Files, file_of, IsAbsent, Rose}
use Rattle.load_files.specs.declared.load.Load.{Load}
use Rattle.load_files.specs.declared.load.Unloaded.{Unloaded}
use Rattle.load_files.specs.declared.load.Unloaded.TheVariants as unloaded
use Rattle.load_files.specs.declared.stop.LoadStop.{LoadStop}
use Rattle.load_files.specs.declared.stop.LoadStop.TheVariants as stop

-- the most octets of one load
abbrev pub most_of_load : ℕ
most_of_load = 67108864

-- the most octets of all loads together
abbrev pub most_of_loads : ℕ
most_of_loads = 268435456

-- the most octets of a load where the loads before it have so many
abbrev pub most_after : ℕ → ℕ
most_after before = min most_of_load (most_of_loads - before)

-- the records of a whole load, or its first fault
abbrev pub judged_by : Option CaptureFault → List ℕ → Result (List Record) CaptureFault
judged_by None octets = Ok (records octets)
judged_by (Some fault) octets = Err fault

-- the records of a load that may have so many octets, or its first fault, where more octets are the fault TooLarge
unfoldable pub judged_load : ℕ → List ℕ → Result (List Record) CaptureFault
judged_load most octets =
    if nat_lt most (length octets) then Err TooLarge else judged_by (capture_fault octets) octets

-- what the loads of some stations are: the records of each, none where a station has no load; or the first station
-- whose load has a fault, with that fault; or the name of the first load that is not held
pub data Loaded : Type 0 where
  Whole : (records : List (List Record)) → Loaded
  Faulty : (station : ℕ) (fault : CaptureFault) → Loaded
  Absent : (name : List ℕ) → Loaded

-- with these records of the stations before
abbrev pub with_before : List (List Record) → Loaded → Loaded
with_before before (Whole records) = Whole (before ++ records)
with_before before (Faulty station fault) = Faulty station fault
with_before before (Absent name) = Absent name

-- a station's load, by its judgement, and then the loads of the stations after it
abbrev pub verdict_then : ℕ → ℕ → Result (List Record) CaptureFault → (ℕ → Loaded) → Loaded
verdict_then k count (Ok rs) next = with_before (rs ∷ []) (next count)
verdict_then k count (Err fault) next = Faulty k fault

-- a station's load by its file, where the loads before it have so many octets
abbrev pub file_then : ℕ → ℕ → List ℕ → Option (List ℕ) → (ℕ → Loaded) → Loaded
file_then before k name None next = Absent name
file_then before k name (Some octets) next =
    verdict_then k (length octets) (judged_load (most_after before) octets) next

-- a station's load by its name, if it has one, and then the loads of the stations after it
abbrev pub load_then : Files → ℕ → ℕ → Option (List ℕ) → (ℕ → Loaded) → Loaded
load_then files before k None next = with_before ([] ∷ []) (next 0)
load_then files before k (Some name) next = file_then before k name (file_of name files) next

-- the loads of the stations from k on, where the loads of those before have so many octets
abbrev pub loaded_from : Files → ℕ → ℕ → List StationLine → Loaded
loaded_from files before k [] = Whole []
loaded_from files before k (s ∷ ss) =
    load_then files before k s.load (λ count. loaded_from files (before + count) (k + 1) ss)

-- the loads of all stations, in their order
unfoldable pub loaded : Files → List StationLine → Loaded
loaded files stations = loaded_from files 0 0 stations

-- where the store tells its files, the loads are so
abbrev pub IsLoaded : Option Files → List StationLine → Loaded → Type 0
IsLoaded None stations l = Unit {0}
IsLoaded (Some files) stations l = loaded files stations ≡ l

-- the name of a station's load, if it has one
abbrev pub load_of : List StationLine → ℕ → Option (List ℕ)
load_of stations k = option_and_then (λ s. s.load) (slice_get stations k)

-- the store tells its files, and this load is the first of which there is none, no load before it having a fault
abbrev pub IsFirstAbsent : Option Files → List StationLine → List ℕ → Type 0
IsFirstAbsent None stations name = ⊥
IsFirstAbsent (Some files) stations name = loaded files stations ≡ Absent name

-- why the loads could not be read, by what the store held and by its failed reads before and after
abbrev pub IsStopped : Option Files → List StationLine → ℕ → ℕ → LoadStop → Type 0
IsStopped held stations reads risen (stop.Fault station fault) = IsLoaded held stations (Faulty station fault)
IsStopped held stations reads risen (stop.Unread station) =
    (name : List ℕ) × (load_of stations station ≡ Some name) × (IsFirstAbsent held stations name ⊎ Rose reads risen)
IsStopped held stations reads risen stop.OutOfMemory = Unit {0}

-- where the store tells its files, this is the judgement of a load that may have so many octets
abbrev pub IsJudgedLoad : ℕ → List ℕ → Option Files → Result (List Record) CaptureFault → Type 0
IsJudgedLoad most name None verdict = Unit {0}
IsJudgedLoad most name (Some files) verdict = option_map (judged_load most) (file_of name files) ≡ Some verdict

-- where the store tells its files, the load has so many octets
abbrev pub IsLongAs : List ℕ → Option Files → ℕ → Type 0
IsLongAs name None count = Unit {0}
IsLongAs name (Some files) count = option_map length (file_of name files) ≡ Some count

-- the loads of all stations, once the stations before k are read and their loads have so many octets
abbrev pub IsLoadedSo : Option Files → List StationLine → List (List Record) → ℕ → ℕ → Type 0
IsLoadedSo None stations so_far before k = Unit {0}
IsLoadedSo (Some files) stations so_far before k =
    loaded files stations ≡ with_before so_far (loaded_from files before k (drop k stations))

-- why a load that may have so many octets could not be read, by the failed reads before and after
abbrev pub IsUnloaded : ℕ → List ℕ → Option Files → ℕ → ℕ → Unloaded → Type 0
IsUnloaded most name held reads risen (unloaded.Fault fault) = IsJudgedLoad most name held (Err fault)
IsUnloaded most name held reads risen unloaded.Unread = IsAbsent name held ⊎ Rose reads risen
IsUnloaded most name held reads risen unloaded.OutOfMemory = Unit {0}

-- a load as it was read, where the loads before it have so many octets
abbrev pub IsLoadOf : ℕ → Option (List ℕ) → Option Files → Load → Type 0
IsLoadOf before None held load = (load.records ≡ []) × (load.octets ≡ 0)
IsLoadOf before (Some name) held load =
    IsJudgedLoad (most_after before) name held (Ok load.records) × IsLongAs name held load.octets

-- why a station's load could not be read, where the loads before it have so many octets
abbrev pub IsUnloadedOf : ℕ → Option (List ℕ) → Option Files → ℕ → ℕ → Unloaded → Type 0
IsUnloadedOf before None held reads risen u = u ≡ unloaded.OutOfMemory
IsUnloadedOf before (Some name) held reads risen u = IsUnloaded (most_after before) name held reads risen u

-- the loads of all stations stop at this one
abbrev pub stop_at : ℕ → Unloaded → LoadStop
stop_at station (unloaded.Fault fault) = stop.Fault station fault
stop_at station unloaded.Unread = stop.Unread station
stop_at station unloaded.OutOfMemory = stop.OutOfMemory
