-- The lines of a run's rows: each has the name of its device (profile). Devices count from 0, the stations before the
-- repeaters.
use Rattle.std.specs.Prelude.{◌≡◌, ◌<◌, ◌≤◌, nat_le, List, [], map, length, slice_get, unwrap_or}
use Rattle.std.specs.List.{AllByRecursion}
use Rattle.mac_parameters.specs.Parameters.{most_half_bits}
use Rattle.collision_log.specs.declared.row.Row.{Row}
use Rattle.layout.specs.Sound.{device_names}
use Rattle.layout.specs.declared.lines.Layout.{Layout}
use Rattle.log_meter.specs.Lines.{IsInRange, is_of_repeater}
use Rattle.log_meter.specs.Logs.{NeverFalls}
use Rattle.log_meter.specs.declared.line.LogLine.{LogLine}

-- the line of a row of a layout's device
abbrev pub logged_line : Layout → Row → LogLine
logged_line layout row =
    record {
      t = row.t;
      repeater = nat_le (length layout.stations) row.device;
      name = unwrap_or (slice_get (device_names layout) row.device) [];
      body = row.body;
    }

-- the lines of rows, in their order
abbrev pub logged_lines : Layout → List Row → List LogLine
logged_lines layout rows = map (logged_line layout) rows

-- a row that a run can have: of one of the layout's devices, and of a kind that the device has, with numbers in range
pub record IsLoggable (layout : Layout) (row : Row) : Type 0 where
  pub time : row.t ≤ most_half_bits
  pub device : row.device < length (device_names layout)
  pub kind : nat_le (length layout.stations) row.device ≡ is_of_repeater row.body
  pub numbers : IsInRange row.t row.body

-- rows that a run can have, in order of their half bits
pub record AreLoggable (layout : Layout) (rows : List Row) : Type 0 where
  pub each : AllByRecursion (IsLoggable layout) rows
  pub order : NeverFalls 0 (logged_lines layout rows)
