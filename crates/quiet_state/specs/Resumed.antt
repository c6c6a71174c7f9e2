-- The state of a quiet network, and the network that goes on from a state (profile). Half bits, stations and ports
-- count from 0.
use Rattle.std.specs.Prelude.{ℕ, zero, suc, ◌+◌, ◌-◌, List, [], ◌∷◌, ◌++◌, map, flat_map, length, take, drop}
use Rattle.frame_layout.specs.declared.queue.Ready.{Ready}
use Rattle.collision_log.specs.declared.row.Row.{Row}
use Rattle.layout.specs.Taps.{taps_of}
use Rattle.layout.specs.declared.lines.RepeaterLine.{RepeaterLine}
use Rattle.load_plan.specs.declared.plan.Plan.{Plan}
use Rattle.mac_transmit.specs.Resuming.{state_of, resumed_sender}
use Rattle.mac_transmit.specs.Sender.{Sender}
use Rattle.mac_transmit.specs.declared.state.SenderState.{SenderState}
use Rattle.port_partition.specs.Guard.{Guard}
use Rattle.repeater_core.specs.Step.{RepeaterDevice, resumed_state}
use Rattle.network.specs.Net.{Net, net, new_net, next}
use Rattle.network.specs.Outputs.{cut_rows, half_bits}
use Rattle.network.specs.declared.outputs.Taken.{Taken}
use Rattle.quiet_state.specs.declared.state.NetState.{NetState}

-- The guards of the ports of all repeaters, the ports of one repeater after those of the one before.
abbrev pub net_guards : Net → List Guard
net_guards n = flat_map (λ r. r.guards) n.repeaters

-- The half bits for which each port still rests (profile, jabber lockup protection), in the same order.
abbrev pub net_rests : Net → List ℕ
net_rests n = flat_map (λ r. map (λ c. c.rest) r.counts) n.repeaters

-- The state of a network, if it is quiet: its half bit, what its senders do, the guards of its ports and how long each
-- port still rests, and the rows and captures so far.
abbrev pub net_state : Net → NetState
net_state n =
    record {
      t = n.t;
      senders = map state_of n.senders;
      guards = net_guards n;
      rests = net_rests n;
      rows = n.rows;
      captures = n.captures;
    }

-- The state of the network of a plan before half bit t.
abbrev pub state_at : Plan → ℕ → NetState
state_at plan t = net_state (net plan t)

-- The senders of the stations from k on before half bit t that go on from these states, each with its queue and its
-- stream of draws.
abbrev pub resumed_senders : ℕ → ℕ → ℕ → List (List Ready) → List SenderState → List Sender
resumed_senders seed t k (q ∷ qs) (s ∷ ss) =
    resumed_sender q (record { seed = seed; station = k; made = s.drawn }) t s ∷ resumed_senders seed t (k + 1) qs ss
resumed_senders seed t k _ _ = []

-- These repeaters in mode Idle, with the guards and the rests of their ports, which stand one after another; all that
-- they decided so far is Idle, and no output is under way.
abbrev pub resumed_repeaters : List RepeaterLine → List Guard → List ℕ → List RepeaterDevice
resumed_repeaters [] guards rests = []
resumed_repeaters (l ∷ ls) guards rests =
    resumed_state l.delay (take (length l.ports) guards) (take (length l.ports) rests)
    ∷ resumed_repeaters ls (drop (length l.ports) guards) (drop (length l.ports) rests)

-- The network of a plan that begins from a state, with new receivers, in which all earlier symbols were Idle.
abbrev pub net_of : Plan → NetState → Net
net_of plan s =
    record {
      taps = taps_of plan.layout;
      t = s.t;
      senders = resumed_senders plan.layout.seed s.t 0 plan.queues s.senders;
      receivers = (new_net plan).receivers;
      repeaters = resumed_repeaters plan.layout.repeaters s.guards s.rests;
      emitted = [];
      decided = [];
      rows = s.rows;
      captures = s.captures;
    }

-- A network so many half bits later.
abbrev pub later_net : Net → ℕ → Net
later_net n zero = n
later_net n (suc k) = next (later_net n k)

-- A network at the end of a run of so many half bits.
abbrev pub end_net : ℕ → Net → Net
end_net half_bits n = later_net n (half_bits - n.t)

-- The rows of a network at the end of a run of so many half bits, and last those of the sendings that the end cuts off.
abbrev pub rows_to : ℕ → Net → List Row
rows_to half_bits n = (end_net half_bits n).rows ++ cut_rows half_bits 0 (end_net half_bits n).senders

-- The captures of a network at the end of such a run.
abbrev pub captures_to : ℕ → Net → List (List Taken)
captures_to half_bits n = (end_net half_bits n).captures

-- The network that goes on from a state, so many half bits later.
abbrev pub net_from : Plan → NetState → ℕ → Net
net_from plan s k = later_net (net_of plan s) k

-- The rows of a run that went on from a state, the state's own first.
unfoldable pub rows_from : Plan → NetState → List Row
rows_from plan s = rows_to (half_bits plan) (net_of plan s)

-- For each station the frames that it received in such a run, the state's own first.
unfoldable pub captures_from : Plan → NetState → List (List Taken)
captures_from plan s = captures_to (half_bits plan) (net_of plan s)
