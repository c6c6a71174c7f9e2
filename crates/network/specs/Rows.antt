-- The rows of what happens to the devices in a half bit (profile). Half bits and devices count from 0, the ports of a
-- row from 1.
use Rattle.std.specs.Prelude.{ℕ, zero, suc, ◌+◌, ◌/◌, ◌%◌, ◌==◌, Bool, List, [], ◌∷◌, ◌++◌, map, if◌then◌else◌, Option, Some, None}
use Rattle.manchester_line.specs.declared.Sym.{Sym}
use Rattle.collision_log.specs.declared.row.Body.{Body}
use Rattle.collision_log.specs.declared.row.Body.TheVariants.{Clash, Closed, Opened, Halted}
use Rattle.collision_log.specs.declared.row.Row.{Row}
use Rattle.port_partition.specs.declared.guard.GuardEvent.{GuardEvent}
use Rattle.port_partition.specs.declared.guard.GuardEvent.TheVariants as event
use Rattle.repeater_core.specs.declared.repeater.RepeaterEvents.{RepeaterEvents}
use Rattle.repeater_core.specs.Step.{RepeaterDevice, chosen, emitted_by, guard_events, clash_begins}

-- The row of an event of device k in half bit t, where there is an event.
abbrev pub row_of : ℕ → ℕ → Option Body → List Row
row_of t k None = []
row_of t k (Some body) = record { t = t; device = k; body = body } ∷ []

-- The rows of half bit t of the stations from k on, the event of a sender before that of the station's receiver.
abbrev pub rows_of : ℕ → ℕ → List (Option Body) → List (Option Body) → List Row
rows_of t k (e ∷ es) (r ∷ rs) = row_of t k e ++ row_of t k r ++ rows_of t (k + 1) es rs
rows_of t k _ _ = []

-- This, where it is so, and else nothing.
abbrev pub happened : Bool → Body → List Body
happened so body = if so then body ∷ [] else []

-- What happens by the guard of a port, counted from 1: its partition, its reconnection or nothing (clause 9).
abbrev pub guard_bodies : ℕ → GuardEvent → List Body
guard_bodies port event.None = []
guard_bodies port event.Closed = Closed port ∷ []
guard_bodies port event.Opened = Opened port ∷ []

-- What happens at the ports from this one on, counted from 1: first whether each is halted, by jabber lockup
-- protection, then its partition or reconnection (clause 9).
abbrev pub port_bodies : ℕ → List Bool → List GuardEvent → List Body
port_bodies port (h ∷ hs) (e ∷ es) =
    happened h (Halted port) ++ (guard_bodies port e ++ port_bodies (port + 1) hs es)
port_bodies port _ _ = []

-- What happens at a repeater whose ports hear these symbols, in its own order: a collision that begins there, then what
-- happens at its ports (clause 9).
abbrev pub repeater_bodies : List Sym → RepeaterDevice → List Body
repeater_bodies heard r =
    happened (clash_begins heard r) Clash
    ++ port_bodies 1 (map (λ c. c.halted) (chosen heard r)) (guard_events r.guards heard (emitted_by r))

-- The rows of what happens in half bit t at device k.
abbrev pub rows_of_bodies : ℕ → ℕ → List Body → List Row
rows_of_bodies t k bodies = map (λ body. record { t = t; device = k; body = body }) bodies

-- The rows of half bit t of the repeaters, of which the first is device k.
abbrev pub repeater_rows : ℕ → ℕ → List (List Body) → List Row
repeater_rows t k [] = []
repeater_rows t k (bodies ∷ rest) = rows_of_bodies t k bodies ++ repeater_rows t (k + 1) rest

-- What happens at n ports from this one on, counted from 1, whose flags are the bits of these numbers, the least first.
abbrev pub bits_bodies : ℕ → ℕ → ℕ → ℕ → ℕ → List Body
bits_bodies port zero closed opened halted = []
bits_bodies port (suc n) closed opened halted =
    happened (halted % 2 == 1) (Halted port)
    ++ (happened (closed % 2 == 1) (Closed port)
    ++ (happened (opened % 2 == 1) (Opened port) ++ bits_bodies (port + 1) n (closed / 2) (opened / 2) (halted / 2)))

-- What happens at a repeater of so many ports whose step answers this, in the order of its rows.
abbrev pub told_bodies : ℕ → RepeaterEvents → List Body
told_bodies ports e = happened e.clash Clash ++ bits_bodies 1 ports e.closed e.opened e.halted
