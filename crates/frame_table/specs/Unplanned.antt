-- Lines of a log that name what a plan lacks (profile). Devices count from 0, frames, ports and lines from 1.
use Rattle.std.specs.Prelude.{ℕ, ◌+◌, ◌-◌, Bool, true, false, nat_le, nat_lt, ◌&&◌, if◌then◌else◌, List, [], ◌∷◌, length, Option, None, Some, slice_get}
use Rattle.collision_log.specs.declared.row.Body.{Body}
use Rattle.collision_log.specs.declared.row.Body.TheVariants.{Closed, Opened, Halted}
use Rattle.frame_layout.specs.declared.queue.Ready.{Ready}
use Rattle.layout.specs.declared.lines.RepeaterLine.{RepeaterLine}
use Rattle.load_plan.specs.declared.plan.Plan.{Plan}
use Rattle.log_meter.specs.declared.line.LogLine.{LogLine}
use Rattle.frame_table.specs.Devices.{device_named}
use Rattle.frame_table.specs.Histories.{frame_named}

-- the port that is closed, opened or halted
abbrev pub port_named : Body → Option ℕ
port_named (Closed port) = Some port
port_named (Opened port) = Some port
port_named (Halted port) = Some port
port_named _ = None

-- whether a number, where there is one, is from 1 to the most
abbrev pub is_counted : ℕ → Option ℕ → Bool
is_counted most None = true
is_counted most (Some n) = nat_le 1 n && nat_le n most

-- how many frames a queue has, and none where there is no queue
abbrev pub frames_queued : Option (List Ready) → ℕ
frames_queued None = 0
frames_queued (Some queue) = length queue

-- how many ports a repeater has, and none where there is no repeater
abbrev pub ports_had : Option RepeaterLine → ℕ
ports_had None = 0
ports_had (Some row) = length row.ports

-- whether the station's queue has the frame that is named, or the repeater the port
abbrev pub is_had : Plan → ℕ → Body → Bool
is_had plan k b =
    if nat_lt k (length plan.layout.stations)
    then is_counted (frames_queued (slice_get plan.queues k)) (frame_named b)
    else is_counted (ports_had (slice_get plan.layout.repeaters (k - length plan.layout.stations))) (port_named b)

-- whether a device with this number is there and has what is named
abbrev pub is_had_by : Plan → Option ℕ → Body → Bool
is_had_by plan None b = false
is_had_by plan (Some k) b = is_had plan k b

-- whether the plan has the device that a line names, of its kind, and its frame or its port
abbrev pub is_planned : Plan → LogLine → Bool
is_planned plan line = is_had_by plan (device_named plan.layout line) line.body

-- the first of these lines that names what the plan lacks, where the first of them is line n
abbrev pub unplanned_from : Plan → ℕ → List LogLine → Option ℕ
unplanned_from plan n [] = None
unplanned_from plan n (line ∷ lines) = if is_planned plan line then unplanned_from plan (n + 1) lines else Some n

-- the first line that names a device which the layout lacks or has as the other kind, a port that the repeater lacks,
-- or a frame beyond the station's queue
abbrev pub first_unplanned : Plan → List LogLine → Option ℕ
first_unplanned plan lines = unplanned_from plan 1 lines
