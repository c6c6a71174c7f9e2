-- The plan of a layout and its loads, and what its run leaves (profile).
use Rattle.std.specs.Prelude.{◌≡◌, ℕ, List, [], ◌∷◌, ◌++◌, Option}
use Rattle.capture_file.specs.declared.entries.Record.{Record}
use Rattle.collision_log.specs.declared.row.Row.{Row}
use Rattle.layout.specs.declared.lines.Layout.{Layout}
use Rattle.layout.specs.declared.lines.StationLine.{StationLine}
use Rattle.load_files.specs.Loaded.{IsLoaded, Whole}
use Rattle.load_plan.specs.Loads.{planned_queues, planned_skips}
use Rattle.load_plan.specs.declared.plan.Plan.{Plan}
use Rattle.network.specs.Outputs.{rows, captures}
use Rattle.network.specs.declared.outputs.Taken.{Taken}
use Rattle.outside.specs.Files.{Files}
use Rattle.outside.specs.declared.file.File.{File}
use Rattle.path_checker.specs.Verdicts.{IsVerdict}
use Rattle.path_checker.specs.declared.verdict.PathVerdict.{PathVerdict}
use Rattle.run_texts.specs.Captures.{pcap_of_taken}
use Rattle.run_texts.specs.Texts.{log_of_rows, counters_of_rows, totals_of_rows}
use Rattle.program_texts.specs.Texts.{name_of_log, name_of_counters, name_of_capture}
use Rattle.program_texts.specs.Verdicts.{line_of_verdict}

-- the plan of a layout, whose loads are those that the store held, where it tells them
pub record IsPlanOf (held : Option Files) (network : Layout) (plan : Plan) : Type 0 where
  pub layout : plan.layout ≡ network
  pub loads : List (List Record)
  pub loaded : IsLoaded held network.stations (Whole loads)
  pub queues : plan.queues ≡ planned_queues network loads
  pub skips : plan.skips ≡ planned_skips network loads

-- the log of a plan's run
abbrev pub log : Plan → List ℕ
log plan = log_of_rows plan.layout (rows plan)

-- the counters of the devices of a plan's run
abbrev pub counters : Plan → List ℕ
counters plan = counters_of_rows plan (rows plan)

-- the captures of stations, by what each of them received
abbrev pub capture_files : List ℕ → List StationLine → List (List Taken) → List File
capture_files prefix (s ∷ ss) (c ∷ cs) =
    record { name = name_of_capture prefix s.name; octets = pcap_of_taken c } ∷ capture_files prefix ss cs
capture_files prefix _ _ = []

-- the files of a run that gave these rows and captures: its log, its counters, and the capture of each station
abbrev pub output_files : List ℕ → Plan → List Row → List (List Taken) → List File
output_files prefix plan rows captures =
    record { name = name_of_log prefix; octets = log_of_rows plan.layout rows }
    ∷ record { name = name_of_counters prefix; octets = counters_of_rows plan rows }
    ∷ capture_files prefix plan.layout.stations captures

-- the files of a plan's run
abbrev pub run_files : List ℕ → Plan → List File
run_files prefix plan = output_files prefix plan (rows plan) (captures plan)

-- the summary of a run that gave these rows: the path verdict, the half bits, and the sums of the counters
pub record IsSummaryOver (plan : Plan) (rows : List Row) (text : List ℕ) : Type 0 where
  pub verdict : PathVerdict
  pub right : IsVerdict plan.layout verdict
  pub is : text ≡ line_of_verdict plan.layout verdict ++ totals_of_rows plan rows

-- the summary of a plan's run
abbrev pub IsSummary : Plan → List ℕ → Type 0
IsSummary plan text = IsSummaryOver plan (rows plan) text

-- the plan of a network with these loads
pub record IsMadeOf (network : Layout) (loads : List (List Record)) (plan : Plan) : Type 0 where
  pub layout : plan.layout ≡ network
  pub queues : plan.queues ≡ planned_queues network loads
  pub skips : plan.skips ≡ planned_skips network loads
