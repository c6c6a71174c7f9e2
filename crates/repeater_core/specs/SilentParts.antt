-- What becomes of a repeater's parts in silent half bits, and for how many of them nothing happens to each, the calm
-- (profile; fragment extension, partition and jabber lockup protection are of clause 9). Ports count from 0.
use Rattle.std.specs.Prelude.{ℕ, ◌+◌, ◌-◌, ◌/◌, ◌<◌, Bool, true, false, ◌==◌, ◌&&◌, ◌||◌, not, min, nat_lt, if◌then◌else◌, List, [], ◌∷◌, length, replicate}
use Rattle.mac_parameters.specs.Parameters.{fragment_extension}
use Rattle.repeater_core.specs.Limits.{most_calm}
use Rattle.manchester_line.specs.declared.Sym.{Sym}
use Rattle.manchester_line.specs.declared.Sym.TheVariants as sym
use Rattle.port_partition.specs.Guard.{Guard, guard_after}
use Rattle.repeater_core.specs.declared.modes.Mode.{Mode}
use Rattle.repeater_core.specs.declared.modes.Mode.TheVariants.{Idle, Repeat, Extend, RxClash, TxClash, OnePort}
use Rattle.repeater_core.specs.declared.modes.Activity.TheVariants.{Nobody}
use Rattle.repeater_core.specs.Modes.{mode_after}
use Rattle.manchester_line.specs.Line.{is_signal}
use Rattle.repeater_core.specs.Counts.{Count, resting_count}
use Rattle.repeater_core.specs.Delayed.{Delayed, moved_on}

-- the silent half bits in which a mode goes on sending: the rest of the fragment extension
abbrev pub sends_for : Mode → ℕ
sends_for Idle = 0
sends_for (Repeat n i) = fragment_extension - 1 - i
sends_for (Extend n i j) = fragment_extension - 1 - i
sends_for (RxClash n i) = fragment_extension - 1 - i
sends_for (TxClash i) = fragment_extension - 1 - i
sends_for (OnePort n i) = 0

-- whether a mode that sends does so to port q
abbrev pub sends_to : Mode → ℕ → Bool
sends_to Idle q = false
sends_to (Repeat n i) q = not (q == n)
sends_to (Extend n i j) q = not (q == n)
sends_to (RxClash n i) q = not (q == n)
sends_to (TxClash i) q = true
sends_to (OnePort n i) q = not (q == n)

-- the calm of port q, which rests for so many half bits more: until then where the mode sends to it, and else all that
-- are told
abbrev pub port_calm : Mode → ℕ → ℕ → ℕ
port_calm mode q rest = if sends_to mode q && nat_lt rest (sends_for mode) then rest else most_calm

-- the calm of the ports from port q on
abbrev pub ports_calm : Mode → ℕ → List Count → ℕ
ports_calm mode q [] = most_calm
ports_calm mode q (c ∷ cs) = min (port_calm mode q c.rest) (ports_calm mode (q + 1) cs)

-- the Idle symbols before the first signal
abbrev pub idle_front : List Sym → ℕ
idle_front [] = 0
idle_front (s ∷ ss) = if is_signal s then 0 else idle_front ss + 1

-- the calm of what is not yet emitted: the rows before the first with a signal, or where none has one all that are told
abbrev pub line_calm : Delayed → ℕ
line_calm d = if idle_front d.rows == length d.rows then most_calm else idle_front d.rows / d.ports

-- whether a port may be connected again, which a silent half bit does
abbrev pub any_opens : List Guard → Bool
any_opens [] = false
any_opens (g ∷ gs) = g.closed && g.mend || any_opens gs

-- a guard after a silent half bit in which its port emits nothing
abbrev pub silent_guard : Guard → Guard
silent_guard g = guard_after g false false false

-- a port's counts after a half bit in which the port rests or nothing is wished for it
abbrev pub silent_count : Count → Count
silent_count c = if c.rest == 0 then resting_count 0 else record { run = 0; rest = c.rest - 1; after_rest = true }

-- a mode after a silent half bit
abbrev pub silent_mode : Mode → Mode
silent_mode mode = mode_after mode Nobody

-- what is not yet emitted after a half bit in which only Idle is decided
abbrev pub silent_line : Delayed → Delayed
silent_line d = moved_on (replicate d.ports sym.Idle) d

-- a mode that a silent half bit led to
abbrev pub IsAfterSilence : Mode → Type 0
IsAfterSilence Idle = Unit {0}
IsAfterSilence (Repeat n i) = ⊥
IsAfterSilence (Extend n i j) = i < fragment_extension
IsAfterSilence (RxClash n i) = i < fragment_extension
IsAfterSilence (TxClash i) = i < fragment_extension
IsAfterSilence (OnePort n i) = ⊥

-- whether a silent half bit in which its port emits nothing leaves a guard as it is
abbrev pub is_unchanged : Guard → Bool
is_unchanged g = not (g.closed && g.mend) && (not g.struck && (g.clash_run == 0 && g.clean_run == 0))
