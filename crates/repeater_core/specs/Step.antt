-- A repeater half bit by half bit (clause 9, with the profile's transitions). Ports count from 0.
use Rattle.std.specs.Prelude.{ℕ, ◌≡◌, ◌+◌, ◌*◌, ◌^◌, ◌≤◌, Bool, true, false, ◌&&◌, not, if◌then◌else◌, List, [], ◌∷◌, length, map, replicate}
use Rattle.mac_parameters.specs.Parameters.{greatest_delay}
use Rattle.mac_parameters.specs.Parameters.{most_ports}
use Rattle.manchester_line.specs.declared.Sym.{Sym}
use Rattle.manchester_line.specs.declared.Sym.TheVariants as sym
use Rattle.port_partition.specs.declared.guard.GuardEvent.{GuardEvent}
use Rattle.port_partition.specs.declared.guard.GuardEvent.TheVariants as event
use Rattle.port_partition.specs.Guard.{Guard, new_guard, guard_after, event_of}
use Rattle.repeater_core.specs.declared.modes.Mode.{Mode}
use Rattle.repeater_core.specs.declared.modes.Mode.TheVariants.{Idle}
use Rattle.repeater_core.specs.Modes.{IsMode, activity_from, mode_after, is_tx_clash}
use Rattle.manchester_line.specs.Line.{is_signal}
use Rattle.repeater_core.specs.Counts.{Count, resting_count, Choice, choices_from}
use Rattle.repeater_core.specs.Laws.{HasNoClash, AreLong, RestWithoutOutput, Repeats}
use Rattle.repeater_core.specs.Delayed.{Delayed, oldest, moved_on}

-- a repeater: its mode, a guard and the counts of each port, and what is decided and not yet emitted
pub record RepeaterDevice : Type 0 where
  pub mode : Mode
  pub guards : List Guard
  pub counts : List Count
  pub line : Delayed

-- a repeater of so many ports, with so many half bits of delay, before its first half bit
abbrev pub new_state : ℕ → ℕ → RepeaterDevice
new_state ports delay = record {
  mode = Idle;
  guards = replicate ports new_guard;
  counts = replicate ports (resting_count 0);
  line = record { ports = ports; delay = delay; rows = replicate (delay * ports) sym.Idle };
}

-- a repeater with these guards whose ports rest for so many half bits more, in mode Idle, with all decisions so far
-- Idle
abbrev pub resumed_state : ℕ → List Guard → List ℕ → RepeaterDevice
resumed_state delay guards rests = record {
  mode = Idle;
  guards = guards;
  counts = map resting_count rests;
  line = record { ports = length guards; delay = delay; rows = replicate (delay * length guards) sym.Idle };
}

-- the mode after a half bit in which the ports hear these symbols
unfoldable pub mode_next : List Sym → RepeaterDevice → Mode
mode_next hears r = mode_after r.mode (activity_from 0 r.guards hears)

-- what is decided for each port, with its counts after
unfoldable pub chosen : List Sym → RepeaterDevice → List Choice
chosen hears r = choices_from (mode_next hears r) hears 0 r.counts

-- whether each port rests
abbrev pub resting_by : List Sym → RepeaterDevice → List Bool
resting_by hears r = map (λ c. c.rests) (chosen hears r)

-- the symbol that is decided for each port
abbrev pub decided_by : List Sym → RepeaterDevice → List Sym
decided_by hears r = map (λ c. c.symbol) (chosen hears r)

-- what each port emits: what was decided for it `delay` half bits ago
abbrev pub emitted_by : RepeaterDevice → List Sym
emitted_by r = oldest r.line

-- a port collides where it hears a clash, or hears a signal while it emits one
abbrev pub collides : Sym → Sym → Bool
collides sym.Clash e = true
collides h e = is_signal h && is_signal e

-- the guards after a half bit in which the ports hear and emit these symbols
abbrev pub guards_after : List Guard → List Sym → List Sym → List Guard
guards_after (g ∷ gs) (h ∷ hs) (e ∷ es) =
    guard_after g (is_signal h) (collides h e) (is_signal e) ∷ guards_after gs hs es
guards_after _ _ _ = []

-- what a half bit in which the ports hear and emit these symbols does to each
abbrev pub guard_events : List Guard → List Sym → List Sym → List GuardEvent
guard_events (g ∷ gs) (h ∷ hs) (e ∷ es) = event_of g (is_signal h) (collides h e) ∷ guard_events gs hs es
guard_events _ _ _ = []

-- the state after a half bit in which the ports hear these symbols
abbrev pub after : List Sym → RepeaterDevice → RepeaterDevice
after hears r = record {
  mode = mode_next hears r;
  guards = guards_after r.guards hears (emitted_by r);
  counts = map (λ c. c.count) (chosen hears r);
  line = moved_on (decided_by hears r) r.line;
}

-- whether an event is the partition of a port
abbrev pub is_closing : GuardEvent → Bool
is_closing event.Closed = true
is_closing _ = false

-- whether an event is the reconnection of a port
abbrev pub is_opening : GuardEvent → Bool
is_opening event.Opened = true
is_opening _ = false

-- the number whose bit p, counted from 0, is the flag of port p, for the ports from p on
abbrev pub mask_from : ℕ → List Bool → ℕ
mask_from p [] = 0
mask_from p (b ∷ bs) = (if b then 2 ^ p else 0) + mask_from (p + 1) bs

-- whether a collision of ports begins
abbrev pub clash_begins : List Sym → RepeaterDevice → Bool
clash_begins hears r = is_tx_clash (mode_next hears r) && not (is_tx_clash r.mode)

-- the ports that are closed now, as a mask (partition)
abbrev pub closed_mask : List Sym → RepeaterDevice → ℕ
closed_mask hears r = mask_from 0 (map is_closing (guard_events r.guards hears (emitted_by r)))

-- the ports that open now, as a mask (reconnection)
abbrev pub opened_mask : List Sym → RepeaterDevice → ℕ
opened_mask hears r = mask_from 0 (map is_opening (guard_events r.guards hears (emitted_by r)))

-- the ports that are halted now, as a mask (jabber lockup protection)
abbrev pub halted_mask : List Sym → RepeaterDevice → ℕ
halted_mask hears r = mask_from 0 (map (λ c. c.halted) (chosen hears r))

-- the ports and the delay of a repeater, how far its mode's counts go, that its lists are as long as they must be, that
-- no clash is stored, that each output is as long as the mode tells, and that a port that rests has none
pub record IsState (r : RepeaterDevice) : Type 0 where
  pub two_ports : 2 ≤ length r.guards
  pub ports_at_most : length r.guards ≤ most_ports
  pub counts_len : length r.counts ≡ length r.guards
  pub line_ports : r.line.ports ≡ length r.guards
  pub some_delay : 1 ≤ r.line.delay
  pub delay_at_most : r.line.delay ≤ greatest_delay
  pub rows_len : length r.line.rows ≡ r.line.delay * length r.guards
  pub mode_counts : IsMode r.mode
  pub no_clash : HasNoClash r.line.rows
  pub long : AreLong r.mode r.counts
  pub rest_without_output : RestWithoutOutput r.counts

-- Whatever its ports hear, a repeater repeats it: what is decided for every other port that does not rest is not Idle.
abbrev pub SignalsAreRepeated : Type 0
SignalsAreRepeated =
    (r : RepeaterDevice) (hears : List Sym) → length hears ≡ length r.guards
    → Repeats (map (λ g. g.closed) r.guards) hears (resting_by hears r) (decided_by hears r)
