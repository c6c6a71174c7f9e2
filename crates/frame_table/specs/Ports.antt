-- When the ports of repeaters are open (profile, after clause 9.6.6.2). Ports count from 1, half bits from 0.
use Rattle.std.specs.Prelude.{ℕ, ◌==◌, Bool, true, false, nat_lt, if◌then◌else◌, List, Option, None, Some, unwrap_or}
use Rattle.std.specs.List.{filter_map}
use Rattle.collision_log.specs.declared.row.Body.{Body}
use Rattle.collision_log.specs.declared.row.Body.TheVariants.{Closed, Opened}
use Rattle.frame_table.specs.Found.{last_found}
use Rattle.frame_table.specs.declared.events.Event.{Event}
use Rattle.frame_table.specs.declared.ports.Change.{Change}

-- what becomes of port p, where it is closed or opened
abbrev pub change_by : ℕ → ℕ → Body → Option Change
change_by p t (Closed port) = if port == p then Some (record { t = t; open_after = false }) else None
change_by p t (Opened port) = if port == p then Some (record { t = t; open_after = true }) else None
change_by p t _ = None

-- what becomes of port p, by the events of its repeater
abbrev pub changes_of : ℕ → List Event → List Change
changes_of p events = filter_map (λ e. change_by p e.t e.body) events

-- what a change makes of a port, where it came before half bit t
abbrev pub state_before : ℕ → Change → Option Bool
state_before t c = if nat_lt c.t t then Some c.open_after else None

-- whether a port with these changes is open in half bit t: it is at first, and a change bears on the half bits after it
abbrev pub is_open : ℕ → List Change → Bool
is_open t changes = unwrap_or (last_found (state_before t) changes) true
