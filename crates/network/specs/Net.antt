-- The network of a plan, stepped half bit by half bit, all devices at once (profile). Half bits, taps, stations,
-- repeaters and their ports count from 0.
use Rattle.std.specs.Prelude.{sum_by, ℕ, zero, suc, ◌+◌, List, [], ◌∷◌, ◌++◌, map, flat_map, length, take, drop, slice_index_or, ◌==◌}
use Rattle.manchester_line.specs.declared.Sym.{Sym}
use Rattle.manchester_line.specs.declared.Sym.TheVariants.{Idle}
use Rattle.frame_layout.specs.declared.queue.Ready.{Ready}
use Rattle.collision_log.specs.declared.row.Row.{Row}
use Rattle.layout.specs.declared.lines.PortLine.{PortLine}
use Rattle.layout.specs.declared.lines.RepeaterLine.{RepeaterLine}
use Rattle.layout.specs.declared.lines.StationLine.{StationLine}
use Rattle.load_plan.specs.declared.plan.Plan.{Plan}
use Rattle.mac_transmit.specs.Sender.{Sender, SendOutcome, new_sender, sender_step}
use Rattle.manchester_line.specs.Line.{is_signal}
use Rattle.mac_receive.specs.Receiver.{Receiving, Reception, new_receiving, receiver_step}
use Rattle.repeater_core.specs.Step.{RepeaterDevice, new_state, after, emitted_by, decided_by}
use Rattle.network.specs.declared.outputs.Taken.{Taken}
use Rattle.network.specs.Hearing.{heard_by}
use Rattle.layout.specs.Taps.{taps_of}
use Rattle.network.specs.Rows.{rows_of, repeater_bodies, repeater_rows}
use Rattle.mac_parameters.specs.Parameters.{most_octets}
use Rattle.network.specs.Captures.{captured}

-- What each sender does in a half bit, by what its station hears (4.2.8).
abbrev pub sendings : List Sym → List Sender → List SendOutcome
sendings (h ∷ hs) (s ∷ ss) = sender_step s h ∷ sendings hs ss
sendings _ _ = []

-- What each receiver does in a half bit, by what its station hears and whether it emits (4.2.9).
abbrev pub receptions : List Sym → List Sym → List Receiving → List Reception
receptions (h ∷ hs) (e ∷ es) (r ∷ rs) = receiver_step r h (is_signal e) ∷ receptions hs es rs
receptions _ _ _ = []

-- What f says of each repeater and of what its ports hear; the ports of one repeater follow those of the one before.
abbrev pub each_repeater : {X : Type 0} → (List Sym → RepeaterDevice → X) → List Sym → List RepeaterDevice → List X
each_repeater f heard [] = []
each_repeater f heard (r ∷ rs) =
    f (take (length r.guards) heard) r ∷ each_repeater f (drop (length r.guards) heard) rs

-- The state before half bit t. emitted and decided have a row for each half bit before t, the latest first: what each
-- tap emitted in it, and what was decided in it for each port. The stations' taps come before those of the ports.
pub record Net : Type 0 where
  pub taps : List PortLine
  pub t : ℕ
  pub senders : List Sender
  pub receivers : List Receiving
  pub repeaters : List RepeaterDevice
  pub emitted : List (List Sym)
  pub decided : List (List Sym)
  pub rows : List Row
  pub captures : List (List Taken)

-- What tap q emitted `back` half bits ago, one half bit ago being the last row, and Idle before half bit 0; and so for
-- what was decided for port q.
abbrev pub emitted_before : List (List Sym) → ℕ → ℕ → Sym
emitted_before history zero q = Idle
emitted_before history (suc b) q = slice_index_or (slice_index_or history b []) q Idle

-- What all taps hear in the half bit.
abbrev pub heard_in : Net → List Sym
heard_in n = heard_by (emitted_before n.emitted) n.taps 0 n.taps

-- What the stations' taps hear in the half bit.
abbrev pub stations_hear : Net → List Sym
stations_hear n = take (length n.senders) (heard_in n)

-- What the ports hear in the half bit.
abbrev pub ports_hear : Net → List Sym
ports_hear n = drop (length n.senders) (heard_in n)

-- What the senders do in the half bit.
abbrev pub sendings_in : Net → List SendOutcome
sendings_in n = sendings (stations_hear n) n.senders

-- What the stations emit in the half bit.
abbrev pub stations_emit : Net → List Sym
stations_emit n = map (λ s. s.emitted) (sendings_in n)

-- What the receivers do in the half bit.
abbrev pub receptions_in : Net → List Reception
receptions_in n = receptions (stations_hear n) (stations_emit n) n.receivers

-- What all taps emit in the half bit, the stations' taps before the ports.
abbrev pub emitted_in : Net → List Sym
emitted_in n = stations_emit n ++ flat_map emitted_by n.repeaters

-- What is decided in the half bit for the ports, which emit it after their repeaters' delays (clause 9).
abbrev pub decided_in : Net → List Sym
decided_in n = flat_map (λ symbols. symbols) (each_repeater decided_by (ports_hear n) n.repeaters)

-- The rows of the half bit, in order of devices: the stations, then the repeaters.
abbrev pub rows_in : Net → List Row
rows_in n =
    rows_of n.t 0 (map (λ s. s.event) (sendings_in n)) (map (λ r. r.event) (receptions_in n))
    ++ repeater_rows n.t (length n.senders) (each_repeater repeater_bodies (ports_hear n) n.repeaters)

-- One half bit of the whole network.
abbrev pub next : Net → Net
next n =
    record {
      taps = n.taps;
      t = n.t + 1;
      senders = map (λ s. s.state) (sendings_in n);
      receivers = map (λ r. r.state) (receptions_in n);
      repeaters = each_repeater after (ports_hear n) n.repeaters;
      emitted = emitted_in n ∷ n.emitted;
      decided = decided_in n ∷ n.decided;
      rows = n.rows ++ rows_in n;
      captures = captured n.t (map (λ r. r.event) (receptions_in n)) (map (λ r. r.octets) (receptions_in n)) n.captures;
    }

-- The senders of the stations from k on before half bit 0, with their queues and their streams of draws.
abbrev pub new_senders : ℕ → ℕ → List (List Ready) → List Sender
new_senders seed k [] = []
new_senders seed k (q ∷ qs) = new_sender q (record { seed = seed; station = k; made = 0 }) ∷ new_senders seed (k + 1) qs

-- The receiver of a station before half bit 0; frames have at most `most` octets before their check sequence (3.2.7).
abbrev pub new_receiver : ℕ → StationLine → Receiving
new_receiver most s = new_receiving s.lose most

-- A repeater of a layout before half bit 0, with its number of ports and its delay in half bits.
abbrev pub new_repeater : RepeaterLine → RepeaterDevice
new_repeater r = new_state (length r.ports) r.delay

-- The network of a plan before half bit 0: all devices are new, and nothing was emitted or decided. In format 2 frames
-- may be tagged.
abbrev pub new_net : Plan → Net
new_net plan =
    record {
      taps = taps_of plan.layout;
      t = 0;
      senders = new_senders plan.layout.seed 0 plan.queues;
      receivers = map (new_receiver (most_octets (plan.layout.format == 2))) plan.layout.stations;
      repeaters = map new_repeater plan.layout.repeaters;
      emitted = [];
      decided = [];
      rows = [];
      captures = map (λ s. []) plan.layout.stations;
    }

-- The network of a plan before half bit t.
abbrev pub net : Plan → ℕ → Net
net plan zero = new_net plan
net plan (suc t) = next (net plan t)

-- How many ports these repeaters have.
abbrev pub ports_of : List RepeaterDevice → ℕ
ports_of rs = sum_by (λ r. length r.guards) rs
