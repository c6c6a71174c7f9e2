-- What the code keeps of a network, and when it stands for a state of it (profile). Half bits, devices, taps and
-- segments count from 0, and so do the ports of a repeater here.
use Rattle.std.specs.Prelude.{ℕ, ◌≡◌, ◌+◌, ◌-◌, ◌*◌, ◌<◌, ◌≤◌, ◌^◌, ◌⊎◌, ◌↔◌, max, nat_lt, if◌then◌else◌, All, List, [], ◌∷◌, ◌++◌, map, flat_map, length, take, drop, slice_index, slice_index_or, Option, Some}
use Rattle.std.specs.List.{range_with_len}
use Rattle.mac_parameters.specs.Parameters.{greatest_place}
use Rattle.manchester_line.specs.declared.Sym.{Sym}
use Rattle.manchester_line.specs.Line.{is_signal}
use Rattle.collision_log.specs.declared.row.Body.{Body}
use Rattle.collision_log.specs.declared.row.Body.TheVariants.{Received}
use Rattle.collision_log.specs.declared.row.Row.{Row}
use Rattle.cable_segment.specs.Cable.{told_at}
use Rattle.layout.specs.declared.lines.PortLine.{PortLine}
use Rattle.layout.specs.Taps.{delays_of, taps_of, positions_on}
use Rattle.load_plan.specs.declared.plan.Plan.{Plan}
use Rattle.mac_transmit.specs.Sender.{Sender, SendOutcome}
use Rattle.mac_receive.specs.Receiver.{Receiving, Reception}
use Rattle.mac_receive.specs.KeptReceiver.{KeptReception, Hears, kept_octets}
use Rattle.repeater_core.specs.declared.repeater.RepeaterEvents.{RepeaterEvents}
use Rattle.repeater_core.specs.Step.{RepeaterDevice, new_state, after, decided_by, emitted_by}
use Rattle.network.specs.declared.outputs.Taken.{Taken}
use Rattle.kept_devices.specs.KeptReceivers.{AllHear}
use Rattle.net_step.specs.declared.places.TapOnSegment.{TapOnSegment}
use Rattle.net_step.specs.Wires.{Wire, wire_at, heard_at_place, carried, cable_places, new_wire, places_from, IsPlaced}
use Rattle.network.specs.TapsOnSegments.{numbers_on, count_on}
use Rattle.network.specs.Net.{Net, emitted_before, sendings, receptions, each_repeater, ports_of}
use Rattle.network.specs.Captures.{captured}
use Rattle.network.specs.Rows.{repeater_rows, told_bodies, repeater_bodies, rows_of}
use Rattle.quiet_state.specs.LastSignals.{last_signal, reach_over, IsOverBy, line_delays}

-- What is kept of a network before half bit t: its stations' senders and receivers, its repeaters, its segments, the
-- place of each tap, the rows and captures so far, how many half bits the symbols of each tap take to the farthest
-- other tap, the delay of each port, and the half bit from which on all signals so far are over.
pub record KeptNet : Type 0 where
  pub t : ℕ
  pub senders : List Sender
  pub receivers : List KeptReception
  pub repeaters : List RepeaterDevice
  pub wires : List Wire
  pub places : List TapOnSegment
  pub rows : List Row
  pub captures : List (List Taken)
  pub reaches : List ℕ
  pub delays : List ℕ
  pub settled : ℕ

-- What all taps hear in the half bit, the stations' taps before the ports.
abbrev pub heard_kept : KeptNet → List Sym
heard_kept k = map (heard_at_place k.wires) k.places

-- What the stations hear in the half bit.
abbrev pub stations_hear_kept : KeptNet → List Sym
stations_hear_kept k = take (length k.senders) (heard_kept k)

-- What the ports hear in the half bit.
abbrev pub ports_hear_kept : KeptNet → List Sym
ports_hear_kept k = drop (length k.senders) (heard_kept k)

-- What the senders do in the half bit.
abbrev pub sendings_kept : KeptNet → List SendOutcome
sendings_kept k = sendings (stations_hear_kept k) k.senders

-- What the stations emit in the half bit.
abbrev pub stations_emit_kept : KeptNet → List Sym
stations_emit_kept k = map (λ s. s.emitted) (sendings_kept k)

-- What all taps emit in the half bit, the stations' taps before the ports.
abbrev pub emitted_kept : KeptNet → List Sym
emitted_kept k = stations_emit_kept k ++ flat_map emitted_by k.repeaters

-- What is decided in the half bit for the ports.
abbrev pub decided_kept : KeptNet → List Sym
decided_kept k = flat_map (λ symbols. symbols) (each_repeater decided_by (ports_hear_kept k) k.repeaters)

-- The half bit from which on the signals of this row are over, where its symbols were sent in half bit t and each needs
-- so many half bits; 0 where it has none.
abbrev pub over_from : ℕ → List ℕ → List Sym → ℕ
over_from t (n ∷ ns) (s ∷ ss) = max (if is_signal s then t + n + 1 else 0) (over_from t ns ss)
over_from t _ _ = 0

-- In half bit t the signals of these rows are over. The rows were sent before half bit u, that of half bit u - 1 first,
-- and their symbols need so many half bits each.
abbrev pub AreOver : ℕ → ℕ → List ℕ → List (List Sym) → Type 0
AreOver t u needs rows = (i : ℕ) → i < length needs → IsOverBy t (slice_index needs i) (last_signal u rows i)

-- There is such a tap: of a station, which has port 0, or of a repeater's port, counted from 0; the repeaters' devices
-- follow the stations'.
abbrev pub IsKeptTap : KeptNet → ℕ → ℕ → Type 0
IsKeptTap k device port =
    ((device < length k.senders) × (port ≡ 0))
    ⊎ ((length k.senders ≤ device) × (device - length k.senders < length k.repeaters)
    × (port < length (slice_index_or k.repeaters (device - length k.senders) (new_state 0 0)).guards))

-- The number of a device's tap among all taps, of which the first so many are the stations'.
abbrev pub kept_tap_number : ℕ → List RepeaterDevice → ℕ → ℕ → ℕ
kept_tap_number stations repeaters device port =
    if nat_lt device stations then device else stations + ports_of (take (device - stations) repeaters) + port

-- What happens at each of these repeaters, whose steps answered these.
abbrev pub all_told : List RepeaterDevice → List RepeaterEvents → List (List Body)
all_told (r ∷ rs) (e ∷ es) = told_bodies (length r.guards) e ∷ all_told rs es
all_told _ _ = []

-- Where the event of a receiver is that it received a frame, it keeps the frame's octets.
abbrev pub Lends : Option Body → List ℕ → List ℕ → Type 0
Lends (Some (Received n)) octets kept = kept ≡ octets
Lends _ octets kept = Unit {0}

-- A receiver gave this event in a half bit, and keeps the octets of a frame that it received.
pub record Gives (r : Reception) (k : KeptReception) (given : Option Body) : Type 0 where
  pub hears : Hears r.state k
  pub event : given ≡ r.event
  pub lends : Lends r.event r.octets (kept_octets k)

-- Each of these receivers gave one of these events in these receptions, in their order.
abbrev pub AllGive : List Reception → List KeptReception → List (Option Body) → Type 0
AllGive [] [] [] = Unit {0}
AllGive (r ∷ rs) (k ∷ ks) (e ∷ es) = Gives r k e × AllGive rs ks es
AllGive _ _ _ = ⊥

-- What these receivers do in the half bit, by what their stations hear and emit.
abbrev pub receptions_kept : KeptNet → List Receiving → List Reception
receptions_kept k rs = receptions (stations_hear_kept k) (stations_emit_kept k) rs

-- The rows of a half bit in which the receivers give these events.
abbrev pub rows_kept : KeptNet → List (Option Body) → List Row
rows_kept k given =
    rows_of k.t 0 (map (λ s. s.event) (sendings_kept k)) given
    ++ repeater_rows k.t (length k.senders) (each_repeater repeater_bodies (ports_hear_kept k) k.repeaters)

-- What the receivers that stand for these become in one half bit, and what the log and the captures get from them.
pub record HearOn (k next : KeptNet) (rs : List Receiving) : Type 0 where
  pub receivers : AllHear (map (λ r. r.state) (receptions_kept k rs)) next.receivers
  pub rows : next.rows ≡ k.rows ++ rows_kept k (map (λ r. r.event) (receptions_kept k rs))
  pub captures :
      next.captures
      ≡ captured k.t (map (λ r. r.event) (receptions_kept k rs)) (map (λ r. r.octets) (receptions_kept k rs)) k.captures

-- What is kept, one half bit later.
pub record IsNextKept (k next : KeptNet) : Type 0 where
  pub time : next.t ≡ k.t + 1
  pub senders : next.senders ≡ map (λ s. s.state) (sendings_kept k)
  pub repeaters : next.repeaters ≡ each_repeater after (ports_hear_kept k) k.repeaters
  pub wires : next.wires ≡ map (carried (emitted_kept k)) k.wires
  pub places : next.places ≡ k.places
  pub ports : map (λ r. length r.guards) next.repeaters ≡ map (λ r. length r.guards) k.repeaters
  pub reaches : next.reaches ≡ k.reaches
  pub delays : next.delays ≡ k.delays
  pub settled :
      next.settled
      ≡ max (max k.settled (over_from k.t k.reaches (emitted_kept k))) (over_from k.t k.delays (decided_kept k))
  pub hearing : (rs : List Receiving) → AllHear rs k.receivers → HearOn k next rs

-- This is what is kept of segment s: its cable, with the present half bit and as many earlier ones as a tap can be
-- away, and the numbers of its taps.
pub record IsWire (all : List PortLine) (s : ℕ) (w : Wire) : Type 0 where
  pub positions : w.cable.positions ≡ cable_places (positions_on s all)
  pub taps : w.taps ≡ numbers_on s 0 all
  pub ahead : w.cable.ahead ≡ 0
  pub window : length w.cable.rows ≡ (greatest_place + 1) * length w.cable.positions

-- What is kept stands for a state of the network.
pub record Stands (n : Net) (k : KeptNet) : Type 0 where
  pub time : k.t ≡ n.t
  pub senders : k.senders ≡ n.senders
  pub receivers : AllHear n.receivers k.receivers
  pub repeaters : k.repeaters ≡ n.repeaters
  pub rows : k.rows ≡ n.rows
  pub captures : k.captures ≡ n.captures
  pub near : All (λ x. x.at ≤ greatest_place) n.taps
  pub placed : All (λ x. x.segment < length k.wires) n.taps
  pub places : k.places ≡ places_from 0 n.taps n.taps
  pub wired : (s : ℕ) → s < length k.wires → IsWire n.taps s (wire_at k.wires s)
  pub told : (back q : ℕ) (d : PortLine) → back ≤ greatest_place → q < length n.taps →
      told_at (wire_at k.wires (slice_index_or n.taps q d).segment).cable back
      (count_on (slice_index_or n.taps q d).segment (take q n.taps))
      ≡ emitted_before n.emitted back q
  pub reaches : k.reaches ≡ map (λ x. reach_over x n.taps) n.taps
  pub delays : k.delays ≡ line_delays n.repeaters
  pub settled : (t : ℕ) → (k.settled ≤ t) ↔ (AreOver t n.t k.reaches n.emitted × AreOver t n.t k.delays n.decided)

-- What is kept of a network of a plan before its first half bit, whatever its devices: nothing was emitted or decided.
pub record IsSilentNet (plan : Plan) (k : KeptNet) : Type 0 where
  pub wires : k.wires ≡ map (new_wire (taps_of plan.layout)) (range_with_len 0 (length plan.layout.segments))
  pub places : k.places ≡ places_from 0 (taps_of plan.layout) (taps_of plan.layout)
  pub reaches : k.reaches ≡ map (λ x. reach_over x (taps_of plan.layout)) (taps_of plan.layout)
  pub delays : k.delays ≡ delays_of plan.layout.repeaters
  pub settled : k.settled ≡ 0

-- There is a sender and a receiver for each station, the lists of a half bit, of these lengths, have one entry for each
-- tap, station, port or repeater, and all devices are at the same half bit.
pub record IsWhole (k : KeptNet) (heard emitted port_emitted decided row sent received events : ℕ) : Type 0 where
  pub few : length k.places < 2 ^ 32
  pub few_devices : length k.senders + length k.repeaters < 2 ^ 32
  pub taps : length k.places ≡ length k.senders + ports_of k.repeaters
  pub receiving : length k.receivers ≡ length k.senders
  pub capturing : length k.captures ≡ length k.senders
  pub hearing : heard ≡ length k.places
  pub emitting : emitted ≡ length k.senders
  pub port_emitting : port_emitted ≡ ports_of k.repeaters
  pub deciding : decided ≡ ports_of k.repeaters
  pub carrying : row ≡ length k.places
  pub sending : sent ≡ length k.senders
  pub hearing_out : received ≡ length k.senders
  pub happening : events ≡ length k.repeaters
  pub placed : All (IsPlaced k.wires) k.places
  pub known : All (λ w. All (λ q. q < length k.places) w.taps) k.wires
  pub times : All (λ s. s.t ≡ k.t) k.senders
  pub steps : All (λ r. r.steps ≡ k.t) k.receivers
