-- A repeater's delay (clause 9; that it is the same for all ports and symbols is profile): what was decided is emitted
-- `delay` half bits later. Rows and turns count from 0.
use Rattle.std.specs.Prelude.{ℕ, ◌≡◌, ◌+◌, ◌-◌, ◌*◌, ◌<◌, ◌≤◌, ◌==◌, if◌then◌else◌, List, ◌++◌, length, map, take, drop}
use Rattle.std.specs.List.{All}
use Rattle.mac_parameters.specs.Parameters.{greatest_delay}
use Rattle.manchester_line.specs.declared.Sym.{Sym}
use Rattle.manchester_line.specs.declared.Sym.TheVariants as sym
use Rattle.manchester_line.specs.Line.{is_signal}

-- what was decided and not yet emitted: a row of one symbol a port for each half bit of the delay, the oldest first
pub record Delayed : Type 0 where
  pub ports : ℕ
  pub delay : ℕ
  pub rows : List Sym

-- the symbols of a ring, read from place h on, counted from 0
abbrev pub rotated : ℕ → List Sym → List Sym
rotated h xs = drop h xs ++ take h xs

-- the delay one half bit later: the oldest row goes, and what is decided now is put at the end
abbrev pub moved_on : List Sym → Delayed → Delayed
moved_on decided d = record d { rows = drop d.ports d.rows ++ decided }

-- the oldest row: what the ports emit in this half bit
abbrev pub oldest : Delayed → List Sym
oldest d = take d.ports d.rows

-- row k, counted from the oldest: what the ports emit k half bits from now
abbrev pub delayed_row : ℕ → Delayed → List Sym
delayed_row k d = take d.ports (drop (k * d.ports) d.rows)

-- the newest n rows have signals at the places of the newest of all
abbrev pub AreAlikeNewest : ℕ → Delayed → Type 0
AreAlikeNewest n d =
    (k : ℕ) → k < d.delay → d.delay ≤ k + n
    → map is_signal (delayed_row k d) ≡ map is_signal (delayed_row (d.delay - 1) d)

-- the turn after this one, of as many turns as the delay has half bits
abbrev pub turn_after : ℕ → ℕ → ℕ
turn_after turn delay = if turn + 1 == delay then 0 else turn + 1

-- `delay` rows of `ports` symbols in a ring, of which row `turn` is the oldest; all but the oldest `filled` are Idle,
-- and the newest `alike` have signals at the same places
pub record IsRing (ports delay turn filled alike : ℕ) (slots : List Sym) : Type 0 where
  pub turn_below : turn < delay
  pub slots_len : length slots ≡ delay * ports
  pub delay_at_most : delay ≤ greatest_delay
  pub filled_at_most : filled ≤ delay
  pub rest_idle : All (λ s. s ≡ sym.Idle) (drop (filled * ports) (rotated (turn * ports) slots))
  pub alike_at_most : alike ≤ delay
  pub newest_alike :
      AreAlikeNewest alike (record { ports = ports; delay = delay; rows = rotated (turn * ports) slots })
