-- Steady half bits, in which the ports, closed ones too, hear what they heard before and nothing happens but counts
-- (profile, for the modes and guards of clause 9). Ports and half bits count from 0.
use Rattle.std.specs.Prelude.{ℕ, zero, suc, ◌≡◌, ◌≢◌, ◌+◌, ◌-◌, ◌*◌, ◌<◌, ◌≤◌, Bool, true, false, ◌==◌, ◌&&◌, min, nat_lt, if◌then◌else◌, List, [], ◌∷◌, length, map, take, drop, slice_index_or}
use Rattle.mac_parameters.specs.Parameters.{preamble_length, fragment_extension, jabber_limit}
use Rattle.std.specs.Fn.{iterate}
use Rattle.manchester_line.specs.declared.Sym.{Sym}
use Rattle.manchester_line.specs.declared.Sym.TheVariants as sym
use Rattle.manchester_line.specs.Line.{preamble_at, jam_at, is_signal}
use Rattle.port_partition.specs.Guard.{Guard, guard_after, new_guard}
use Rattle.port_partition.specs.Alike.{HasNoEvent}
use Rattle.repeater_core.specs.declared.modes.Mode.{Mode}
use Rattle.repeater_core.specs.declared.modes.Mode.TheVariants.{Idle, Repeat, Extend, RxClash, TxClash, OnePort}
use Rattle.repeater_core.specs.declared.modes.Activity.{Activity}
use Rattle.repeater_core.specs.declared.modes.Activity.TheVariants.{Nobody, One, Several}
use Rattle.repeater_core.specs.Limits.{most_calm}
use Rattle.repeater_core.specs.Modes.{next_count}
use Rattle.repeater_core.specs.Counts.{Count, resting_count}
use Rattle.repeater_core.specs.Delayed.{Delayed, moved_on, oldest}
use Rattle.repeater_core.specs.SilentParts.{silent_count, sends_to}
use Rattle.repeater_core.specs.Step.{RepeaterDevice, collides, mode_next, after, emitted_by, decided_by, closed_mask, opened_mask, halted_mask}

-- the mode after a half bit in which it changes by its counts alone
abbrev pub mode_on : Mode → Mode
mode_on Idle = Idle
mode_on (Repeat n i) = Repeat n (next_count i)
mode_on (Extend n i j) = Extend n (next_count i) (j + 1)
mode_on (RxClash n i) = RxClash n (next_count i)
mode_on (TxClash i) = TxClash (next_count i)
mode_on (OnePort n i) = OnePort n (next_count i)

-- a steady half bit: the mode changes by its counts alone, the ports emit and are sent signals as told, and no port is
-- closed, opened or halted
pub record IsSteadyStep (hears : List Sym) (emitting deciding : List Bool) (r : RepeaterDevice) : Type 0 where
  pub mode : mode_next hears r ≡ mode_on r.mode
  pub emits : map is_signal (emitted_by r) ≡ emitting
  pub decides : map is_signal (decided_by hears r) ≡ deciding
  pub none_closes : closed_mask hears r ≡ 0
  pub none_opens : opened_mask hears r ≡ 0
  pub none_halted : halted_mask hears r ≡ 0

-- the next n half bits in which the ports hear these symbols are steady, and the ports emit and are sent signals in all
-- of them as in the first
abbrev pub IsSteady : List Sym → RepeaterDevice → ℕ → Type 0
IsSteady hears r n =
    (k : ℕ) → k < n
    → IsSteadyStep hears (map is_signal (emitted_by r)) (map is_signal (decided_by hears r)) (iterate (after hears) k r)

-- what a mode sends, to whom it does: of the preamble and start frame delimiter, of the jam, or what the one port hears
abbrev pub sent_text : Mode → List Sym → Sym
sent_text Idle hears = sym.Idle
sent_text (Repeat n i) hears = if nat_lt i preamble_length then preamble_at i else slice_index_or hears n sym.Idle
sent_text (Extend n i j) hears = jam_at j
sent_text (RxClash n i) hears = jam_at i
sent_text (TxClash i) hears = jam_at i
sent_text (OnePort n i) hears = jam_at i

-- what is decided for the ports in a steady half bit: the text for those that are sent a signal
abbrev pub texted : List Bool → Sym → List Sym
texted deciding text = map (λ b. if b then text else sym.Idle) deciding

-- whether a port hears something, has a collision, and emits something
pub record Kind : Type 0 where
  pub hears : Bool
  pub clash : Bool
  pub emits : Bool

-- the kind of half bit of a port that hears this symbol, and emits something or not
abbrev pub kind_of : Sym → Bool → Kind
kind_of sym.Clash e = record { hears = true; clash = true; emits = e }
kind_of h e = record { hears = is_signal h; clash = is_signal h && e; emits = e }

-- the kind of half bit of each port
abbrev pub kinds_of : List Sym → List Bool → List Kind
kinds_of (h ∷ hs) (e ∷ es) = kind_of h e ∷ kinds_of hs es
kinds_of _ _ = []

-- each element of a list changed by what stands at its place in another
abbrev pub at_each : {A B : Type 0} → (B → A → A) → List B → List A → List A
at_each f (b ∷ bs) (x ∷ xs) = f b x ∷ at_each f bs xs
at_each f _ _ = []

-- a guard after a half bit of this kind
abbrev pub guard_by : Kind → Guard → Guard
guard_by k g = guard_after g k.hears k.clash k.emits

-- a port's counts after a steady half bit in which it is sent a signal or not
abbrev pub count_by : Bool → Count → Count
count_by true c = record { run = c.run + 1; rest = 0; after_rest = c.after_rest }
count_by false c = silent_count c

-- what is not yet emitted after n steady half bits, from the mode before them
abbrev pub line_later : List Sym → List Bool → ℕ → Mode → Delayed → Delayed
line_later hears deciding zero mode d = d
line_later hears deciding (suc n) mode d =
    line_later hears deciding n (mode_on mode) (moved_on (texted deciding (sent_text (mode_on mode) hears)) d)

-- no port's output is longer than the limit at which it is halted
abbrev pub RunsWithin : List Count → Type 0
RunsWithin cs = (q : ℕ) → q < length cs → (slice_index_or cs q (resting_count 0)).run ≤ jabber_limit

-- each guard has no event in n half bits in which its port hears and emits symbols of these classes
abbrev pub HaveNoEvents : ℕ → List Sym → List Sym → List Guard → Type 0
HaveNoEvents n hears emits gs =
    (q : ℕ) → q < length gs
    → HasNoEvent (is_signal (slice_index_or hears q sym.Idle))
    (collides (slice_index_or hears q sym.Idle) (slice_index_or emits q sym.Idle))
    (is_signal (slice_index_or emits q sym.Idle)) n (slice_index_or gs q new_guard)

-- a port that is sent a signal in n half bits does not rest, and is halted in none of them
abbrev pub IsSentFor : ℕ → Bool → Count → Type 0
IsSentFor n sent c = sent ≡ true → (c.rest ≡ 0) × ((k : ℕ) → k < n → c.run + k ≢ jabber_limit)

-- each port is sent signals in n half bits, or not
abbrev pub AreSentFor : ℕ → List Sym → List Count → Type 0
AreSentFor n decided cs =
    (q : ℕ) → q < length cs
    → IsSentFor n (is_signal (slice_index_or decided q sym.Idle)) (slice_index_or cs q (resting_count 0))

-- for how many half bits with these active ports a mode changes by its counts alone, or all that are told
abbrev pub mode_steady : Mode → Activity → ℕ
mode_steady Idle Nobody = most_calm
mode_steady (Repeat n i) (One m sym.Clash) = 0
mode_steady (Repeat n i) (One m s) = if m == n then most_calm else 0
mode_steady (Extend n i j) Nobody = fragment_extension - 1 - i
mode_steady (RxClash n i) Nobody = fragment_extension - 1 - i
mode_steady (RxClash n i) (One m s) = if m == n then most_calm else 0
mode_steady (TxClash i) Nobody = fragment_extension - 1 - i
mode_steady (TxClash i) (One m s) = fragment_extension - 1 - i
mode_steady (TxClash i) Several = most_calm
mode_steady (OnePort n i) (One m s) = if m == n then most_calm else 0
mode_steady mode active = 0

-- for how many half bits a port that the mode sends to or not is sent a signal, or rests, or neither, as in the first
abbrev pub port_steady : Bool → Count → ℕ
port_steady sends c = if sends then (if c.rest == 0 then jabber_limit - c.run else c.rest) else most_calm

-- for how many half bits this holds of the ports from port q on
abbrev pub ports_steady : Mode → ℕ → List Count → ℕ
ports_steady mode q [] = most_calm
ports_steady mode q (c ∷ cs) = min (port_steady (sends_to mode q) c) (ports_steady mode (q + 1) cs)

-- whether each of the ports from port q on is sent a signal: those that the mode sends to and that don't rest
abbrev pub sent_from : Mode → ℕ → List Count → List Bool
sent_from mode q [] = []
sent_from mode q (c ∷ cs) = (sends_to mode q && c.rest == 0) ∷ sent_from mode (q + 1) cs

-- the oldest n rows have signals at the places of the first
abbrev pub AreAlikeRows : ℕ → Delayed → Type 0
AreAlikeRows n d =
    (k : ℕ) → k < n → map is_signal (take d.ports (drop (k * d.ports) d.rows)) ≡ map is_signal (oldest d)
