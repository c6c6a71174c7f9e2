-- The texts of a run, as lists of octets (profile). Devices count from 0, the stations before the repeaters.
use Rattle.std.specs.Prelude.{ℕ, ◌+◌, ◌*◌, nat_le, List, [], ◌∷◌, ◌++◌, length, slice_get, unwrap_or, codes, decimal}
use Rattle.mac_parameters.specs.Parameters.{half_bits_a_bit}
use Rattle.collision_log.specs.Counters.{counters_line}
use Rattle.collision_log.specs.Rows.{row_line}
use Rattle.collision_log.specs.declared.counters.Counters.{Counters}
use Rattle.collision_log.specs.declared.row.Row.{Row}
use Rattle.layout.specs.Sound.{device_names}
use Rattle.layout.specs.declared.lines.Layout.{Layout}
use Rattle.load_plan.specs.declared.plan.Plan.{Plan}
use Rattle.run_texts.specs.Counts.{counts_of, totals}
use Rattle.run_texts.specs.declared.totals.Sums.{Sums}

-- The line of a row, by the names of all devices, of which so many are stations.
unfoldable pub line_of_row : List (List ℕ) → ℕ → Row → List ℕ
line_of_row names stations row =
    row_line row (nat_le stations row.device) (unwrap_or (slice_get names row.device) [])

-- The lines of these rows, in their order.
abbrev pub lines_of_rows : List (List ℕ) → ℕ → List Row → List ℕ
lines_of_rows names stations [] = []
lines_of_rows names stations (row ∷ rows) = line_of_row names stations row ++ lines_of_rows names stations rows

-- The log of a run of a layout that gave these rows.
unfoldable pub log_of_rows : Layout → List Row → List ℕ
log_of_rows layout rows = lines_of_rows (device_names layout) (length layout.stations) rows

-- The lines of the counts of the devices from k on, with their names; the first so many devices are stations.
abbrev pub lines_of_counts : ℕ → ℕ → List (List ℕ) → List Counters → List ℕ
lines_of_counts stations k (n ∷ ns) (c ∷ cs) =
    counters_line c (nat_le stations k) n ++ lines_of_counts stations (k + 1) ns cs
lines_of_counts stations k _ _ = []

-- The counters of a plan's run that gave these rows: a line for each device.
unfoldable pub counters_of_rows : Plan → List Row → List ℕ
counters_of_rows plan rows =
    lines_of_counts (length plan.layout.stations) 0 (device_names plan.layout) (counts_of plan rows)

-- What all devices sent: the words of the sums, each with its number.
abbrev pub sending_totals : Sums → List ℕ
sending_totals t =
    codes "sent " ++ decimal t.sent ++ codes " collided " ++ decimal t.collided
    ++ codes " late " ++ decimal t.late ++ codes " given_up " ++ decimal t.given_up
    ++ codes " cut " ++ decimal t.cut ++ codes " left " ++ decimal t.left

-- What all devices received and repeated: the words of the sums, each with its number.
abbrev pub receiving_totals : Sums → List ℕ
receiving_totals t =
    codes " received " ++ decimal t.received ++ codes " dropped " ++ decimal t.dropped
    ++ codes " clash " ++ decimal t.clash ++ codes " closed " ++ decimal t.closed
    ++ codes " opened " ++ decimal t.opened

-- The line of the sums over all devices.
abbrev pub totals_line : Sums → List ℕ
totals_line t = sending_totals t ++ receiving_totals t ++ codes "\n"

-- The last two lines of a summary: the half bits of a plan's run, two for each bit, and the sums over the rows that it
-- gave.
unfoldable pub totals_of_rows : Plan → List Row → List ℕ
totals_of_rows plan rows =
    codes "half_bits " ++ decimal (half_bits_a_bit * plan.layout.until_bits) ++ codes "\n"
    ++ totals_line (totals (counts_of plan rows))
