-- The modes of a repeater, and what each wishes for the ports (clause 9, with the profile's transitions). Ports and
-- counts of half bits are from 0.
use Rattle.std.specs.Prelude.{ℕ, ◌+◌, ◌<◌, ◌≤◌, Bool, true, false, ◌==◌, ◌&&◌, not, nat_lt, if◌then◌else◌, List, ◌∷◌, slice_index_or}
use Rattle.mac_parameters.specs.Parameters.{fragment_extension, preamble_length}
use Rattle.repeater_core.specs.Limits.{counts_end}
use Rattle.manchester_line.specs.declared.Sym.{Sym}
use Rattle.manchester_line.specs.declared.Sym.TheVariants as sym
use Rattle.manchester_line.specs.Line.{preamble_at, jam_at, is_signal}
use Rattle.port_partition.specs.Guard.{Guard}
use Rattle.repeater_core.specs.declared.modes.Mode.{Mode}
use Rattle.repeater_core.specs.declared.modes.Mode.TheVariants.{Idle, Repeat, Extend, RxClash, TxClash, OnePort}
use Rattle.repeater_core.specs.declared.modes.Activity.{Activity}
use Rattle.repeater_core.specs.declared.modes.Activity.TheVariants.{Nobody, One, Several}

-- the half bits of a mode's output, counted from 0; beyond the fragment extension they go round in periods of the jam
abbrev pub count_of : Mode → ℕ
count_of Idle = 0
count_of (Repeat n i) = i
count_of (Extend n i j) = i
count_of (RxClash n i) = i
count_of (TxClash i) = i
count_of (OnePort n i) = i

-- the half bits of jam in a fragment extension, counted from 0
abbrev pub jams_of : Mode → ℕ
jams_of (Extend n i j) = j
jams_of _ = 0

-- how far the counts of a mode go: no more jam than output
pub record IsMode (mode : Mode) : Type 0 where
  pub count_below : count_of mode < counts_end
  pub jams_within : jams_of mode ≤ count_of mode

-- the count after this one: from the last it goes back by one period of the jam
abbrev pub next_count : ℕ → ℕ
next_count i = if i + 1 == counts_end then fragment_extension else i + 1

-- the active ports of two groups of ports together
abbrev pub joined : Activity → Activity → Activity
joined Nobody a = a
joined (One n s) Nobody = One n s
joined (One n s) _ = Several
joined Several a = Several

-- what port n, which hears s, adds to the active ports: itself where it is open and hears a signal
abbrev pub activity_at : ℕ → Guard → Sym → Activity
activity_at n g s = if not g.closed && is_signal s then One n s else Nobody

-- which ports from port n on are active
abbrev pub activity_from : ℕ → List Guard → List Sym → Activity
activity_from n (g ∷ gs) (s ∷ ss) = joined (activity_at n g s) (activity_from (n + 1) gs ss)
activity_from n _ _ = Nobody

-- a port that begins to be heard alone
abbrev pub begun : ℕ → Sym → Mode
begun n sym.Clash = RxClash n 0
begun n s = Repeat n 0

-- the one port that is heard goes on
abbrev pub repeated : ℕ → ℕ → Sym → Mode
repeated n i sym.Clash = RxClash n 0
repeated n i s = Repeat n (next_count i)

-- the mode after a half bit with these active ports
abbrev pub mode_after : Mode → Activity → Mode
mode_after Idle Nobody = Idle
mode_after Idle (One n s) = begun n s
mode_after Idle Several = TxClash 0
mode_after (Repeat n i) Nobody = if nat_lt (next_count i) fragment_extension then Extend n (next_count i) 0 else Idle
mode_after (Repeat n i) (One m s) = if m == n then repeated n i s else TxClash 0
mode_after (Repeat n i) Several = TxClash 0
mode_after (Extend n i j) Nobody =
    if nat_lt (next_count i) fragment_extension then Extend n (next_count i) (j + 1) else Idle
mode_after (Extend n i j) (One m s) = if m == n then RxClash n 0 else TxClash 0
mode_after (Extend n i j) Several = TxClash 0
mode_after (RxClash n i) Nobody = if nat_lt (next_count i) fragment_extension then RxClash n (next_count i) else Idle
mode_after (RxClash n i) (One m s) = if m == n then RxClash n (next_count i) else TxClash 0
mode_after (RxClash n i) Several = TxClash 0
mode_after (TxClash i) Nobody = if nat_lt (next_count i) fragment_extension then TxClash (next_count i) else Idle
mode_after (TxClash i) (One n s) =
    if nat_lt (next_count i) fragment_extension then TxClash (next_count i) else OnePort n 0
mode_after (TxClash i) Several = TxClash (next_count i)
mode_after (OnePort n i) Nobody = Idle
mode_after (OnePort n i) (One m s) = if m == n then OnePort n (next_count i) else TxClash 0
mode_after (OnePort n i) Several = TxClash 0

-- whether several ports collide, and the jam goes to all
abbrev pub is_tx_clash : Mode → Bool
is_tx_clash (TxClash i) = true
is_tx_clash _ = false

-- what a mode wishes for port q in a half bit in which the ports hear these symbols
abbrev pub wish_of : Mode → List Sym → ℕ → Sym
wish_of Idle hears q = sym.Idle
wish_of (Repeat n i) hears q =
    if q == n then sym.Idle else if nat_lt i preamble_length then preamble_at i else slice_index_or hears n sym.Idle
wish_of (Extend n i j) hears q = if q == n then sym.Idle else jam_at j
wish_of (RxClash n i) hears q = if q == n then sym.Idle else jam_at i
wish_of (TxClash i) hears q = jam_at i
wish_of (OnePort n i) hears q = if q == n then sym.Idle else jam_at i
