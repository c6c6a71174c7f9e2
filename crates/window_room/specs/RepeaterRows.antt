-- How many rows a repeater may still log in half bits that are to come, whatever its ports hear (profile).
use Rattle.std.specs.Prelude.{ℕ, ◌+◌, ◌*◌, ◌/◌, List, [], ◌∷◌, min, if◌then◌else◌}
use Rattle.mac_parameters.specs.Parameters.{fragment_extension, jabber_limit, reconnection}
use Rattle.port_partition.specs.Guard.{Guard}
use Rattle.repeater_core.specs.declared.modes.Mode.{Mode}
use Rattle.repeater_core.specs.declared.modes.Mode.TheVariants.{TxClash}
use Rattle.repeater_core.specs.Counts.{Count}
use Rattle.repeater_core.specs.Step.{RepeaterDevice}

-- Half of the half bits from one partition of a port to the next, at least: what a partition and what a reconnection
-- count (profile).
abbrev pub guard_turn : ℕ
guard_turn = reconnection / 2

-- The half bits that are spent already on the next partition or reconnection of a port (profile).
abbrev pub spent_by_guard : Guard → ℕ
spent_by_guard g =
    if g.closed then (if g.mend then reconnection else min g.clean_run reconnection) else guard_turn

-- The half bits that are spent already on the next halt of a port (profile).
abbrev pub spent_by_count : Count → ℕ
spent_by_count c = min c.run jabber_limit

-- The half bits that are spent already on the next collision of ports that begins: a collision has the fragment
-- extension at least (profile).
abbrev pub spent_by_mode : Mode → ℕ
spent_by_mode (TxClash i) = min i fragment_extension
spent_by_mode _ = fragment_extension

-- The partitions and reconnections of these ports in n half bits, at most (profile).
abbrev pub guard_rows_left : ℕ → List Guard → ℕ
guard_rows_left n [] = 0
guard_rows_left n (g ∷ gs) = (n + spent_by_guard g) / guard_turn + guard_rows_left n gs

-- The halts of these ports in n half bits, at most (profile).
abbrev pub halt_rows_left : ℕ → List Count → ℕ
halt_rows_left n [] = 0
halt_rows_left n (c ∷ cs) = (n + spent_by_count c) / jabber_limit + halt_rows_left n cs

-- The rows of a repeater in n half bits, at most (profile).
abbrev pub repeater_rows_left : ℕ → RepeaterDevice → ℕ
repeater_rows_left n r =
    (n + spent_by_mode r.mode) / fragment_extension + (guard_rows_left n r.guards + halt_rows_left n r.counts)

-- The rows of any repeater of so many ports in n half bits, at most (profile).
abbrev pub repeater_window_rows : ℕ → ℕ → ℕ
repeater_window_rows ports n =
    1 + n / fragment_extension + (ports * (2 + n / guard_turn) + ports * (1 + n / jabber_limit))
