-- How long it lasts until a repeater may log again, from which follows how many rows a window can have (profile, for
-- the events of clause 9). All waits are half bits, and count up to one less than the half bits between two rows.
use Rattle.std.specs.Prelude.{sum_by, ℕ, ◌+◌, ◌-◌, ◌*◌, ◌/◌, ◌<◌, min, if◌then◌else◌}
use Rattle.mac_parameters.specs.Parameters.{fragment_extension, partition_in_a_row, partition_collision, reconnection, jabber_limit}
use Rattle.port_partition.specs.Guard.{Guard}
use Rattle.repeater_core.specs.declared.modes.Mode.{Mode}
use Rattle.repeater_core.specs.declared.modes.Mode.TheVariants.{TxClash}
use Rattle.repeater_core.specs.Counts.{Count}
use Rattle.repeater_core.specs.Step.{RepeaterDevice}

-- The half bits from one row of a kind at a place to the next at least: a port that was just opened is closed again, at
-- the soonest, by a row of collisions of one half bit each with one half bit between two of them (profile).
abbrev pub rows_apart : ℕ
rows_apart = 2 * partition_in_a_row - 1

-- The half bits before the next collision of ports may begin: one that is under way is jammed for as long as the
-- fragment extension (clause 9).
abbrev pub clash_wait : Mode → ℕ
clash_wait (TxClash i) = min (fragment_extension - i) (rows_apart - 1)
clash_wait _ = 0

-- The half bits before a port may be halted: its rest and what its output has left (jabber lockup protection,
-- clause 9).
abbrev pub halt_wait : Count → ℕ
halt_wait c = min (c.rest + (jabber_limit - c.run)) (rows_apart - 1)

-- The half bits before collisions in a row may close an open port: one for each, and one between two (partition,
-- clause 9).
abbrev pub collisions_wait : Guard → ℕ
collisions_wait g = 2 * (partition_in_a_row - g.in_row) - (if g.struck then 1 else 2)

-- The half bits before a port may be closed or opened (partition and reconnection, clause 9).
abbrev pub guard_wait : Guard → ℕ
guard_wait g =
    if g.closed then
    (if g.mend then 0 else min (reconnection - g.clean_run) (rows_apart - 1))
    else min (min (collisions_wait g) (partition_collision - 1 - g.clash_run)) (rows_apart - 1)

-- All waits of a repeater together.
abbrev pub waits : RepeaterDevice → ℕ
waits s = clash_wait s.mode + (sum_by halt_wait s.counts + sum_by guard_wait s.guards)

-- The places of a repeater at which rows of one kind come: itself for its collisions, and each port both for its halts
-- and for its partitions with its reconnections (profile).
abbrev pub row_places : ℕ → ℕ
row_places ports = 1 + 2 * ports

-- The most rows of a repeater of so many ports in so many half bits (profile).
abbrev pub most_rows : ℕ → ℕ → ℕ
most_rows ports n = row_places ports * (n + (rows_apart - 1)) / rows_apart

-- There is room for all rows that a repeater of so many ports may have in so many half bits more (profile).
abbrev pub HasRowRoom : ℕ → ℕ → ℕ → RepeaterDevice → Type 0
HasRowRoom ports left room s = row_places ports * (left + (rows_apart - 1)) < rows_apart * (room + 1) + waits s
