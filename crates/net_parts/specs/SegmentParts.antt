-- A segment with its stations, as a part (profile). The taps of a segment are numbered from 0: those of its stations
-- in their order, then those of its ports in the order of edges. Half bits, segments, stations and edges count from
-- 0.
use Rattle.std.specs.Prelude.{ℕ, ◌+◌, ◌-◌, nat_lt, if◌then◌else◌, List, [], ◌∷◌, ◌++◌, map, length, slice_index, Option}
use Rattle.manchester_line.specs.declared.Sym.{Sym}
use Rattle.collision_log.specs.declared.row.Body.{Body}
use Rattle.collision_log.specs.declared.row.Row.{Row}
use Rattle.cable_segment.specs.Bus.{heard_at}
use Rattle.layout.specs.declared.lines.Layout.{Layout}
use Rattle.layout.specs.Taps.{tap_of, taps_of, positions_on}
use Rattle.mac_transmit.specs.Sender.{Sender, SendOutcome}
use Rattle.mac_receive.specs.Receiver.{Receiving, Reception}
use Rattle.network.specs.declared.outputs.Taken.{Taken}
use Rattle.network.specs.Times.{port_delays}
use Rattle.network.specs.Net.{emitted_before, sendings, receptions}
use Rattle.network.specs.Rows.{row_of}
use Rattle.network.specs.Captures.{captured}
use Rattle.network.specs.TapsOnSegments.{numbers_on}
use Rattle.net_parts.specs.Windows.{edge_ports}
use Rattle.net_parts.specs.Machines.{span, Machine}

-- A segment's stations and the edges of its ports, by their numbers and ascending; the delay behind each of these
-- edges, in half bits; and the places of its taps, in half bits from the cable's end (profile).
pub record Wiring : Type 0 where
  pub stations : List ℕ
  pub edges : List ℕ
  pub delays : List ℕ
  pub positions : List ℕ

-- How segment s of a layout is wired (profile).
abbrev pub wiring : Layout → ℕ → Wiring
wiring l s = record {
  stations = numbers_on s 0 (map tap_of l.stations);
  edges = numbers_on s 0 (edge_ports l);
  delays = map (slice_index (port_delays l)) (numbers_on s 0 (edge_ports l));
  positions = positions_on s (taps_of l);
}

-- A segment before half bit t: its stations' senders and receivers, what they emitted and what came in over its
-- ports, a row for each half bit before t and the latest first, and its stations' rows and captures (profile).
pub record SegmentState : Type 0 where
  pub t : ℕ
  pub senders : List Sender
  pub receivers : List Receiving
  pub own : List (List Sym)
  pub arrived : List (List Sym)
  pub rows : List Row
  pub captures : List (List Taken)

-- What tap r of a segment emitted `back` half bits ago, where L is the lookahead. What comes in for a port in a half
-- bit was decided L half bits before, and the port emits it its delay after that decision; `arrived` has the row of
-- the present half bit first (profile).
abbrev pub told_on : Wiring → ℕ → List (List Sym) → List (List Sym) → ℕ → ℕ → Sym
told_on w L own arrived back r =
    if nat_lt r (length w.stations) then emitted_before own back r
    else (
    let port = r - length w.stations in
    emitted_before arrived (back + slice_index w.delays port + 1 - L) port)

-- What tap r of a segment hears in a half bit in which this row comes in (profile).
abbrev pub hears_on : Wiring → ℕ → List Sym → SegmentState → ℕ → Sym
hears_on w L row s r = heard_at (told_on w L s.own (row ∷ s.arrived)) w.positions r

-- What its stations hear, in their order (profile).
abbrev pub stations_hear_on : Wiring → ℕ → List Sym → SegmentState → List Sym
stations_hear_on w L row s = span (hears_on w L row s) 0 (length w.stations)

-- What its ports hear, in the order of edges: this row goes out (profile).
abbrev pub ports_hear_on : Wiring → ℕ → List Sym → SegmentState → List Sym
ports_hear_on w L row s = span (hears_on w L row s) (length w.stations) (length w.edges)

-- How the senders of its stations go on (profile).
abbrev pub sendings_on : Wiring → ℕ → List Sym → SegmentState → List SendOutcome
sendings_on w L row s = sendings (stations_hear_on w L row s) s.senders

-- What its stations emit (profile).
abbrev pub emissions_on : Wiring → ℕ → List Sym → SegmentState → List Sym
emissions_on w L row s = map (λ o. o.emitted) (sendings_on w L row s)

-- How the receivers of its stations go on (profile).
abbrev pub receptions_on : Wiring → ℕ → List Sym → SegmentState → List Reception
receptions_on w L row s = receptions (stations_hear_on w L row s) (emissions_on w L row s) s.receivers

-- The rows of half bit t of the stations of these numbers, the event of a sender before that of its receiver
-- (profile).
abbrev pub rows_on : ℕ → List ℕ → List (Option Body) → List (Option Body) → List Row
rows_on t (k ∷ ks) (e ∷ es) (r ∷ rs) = row_of t k e ++ row_of t k r ++ rows_on t ks es rs
rows_on t _ _ _ = []

-- One half bit of a segment, in which this row comes in (profile).
abbrev pub segment_step : Wiring → ℕ → List Sym → SegmentState → SegmentState
segment_step w L row s =
    let sends = sendings_on w L row s in
    let receives = receptions_on w L row s in
    record {
      t = s.t + 1;
      senders = map (λ o. o.state) sends;
      receivers = map (λ r. r.state) receives;
      own = emissions_on w L row s ∷ s.own;
      arrived = row ∷ s.arrived;
      rows = s.rows ++ rows_on s.t w.stations (map (λ o. o.event) sends) (map (λ r. r.event) receives);
      captures = captured s.t (map (λ r. r.event) receives) (map (λ r. r.octets) receives) s.captures;
    }

-- A segment as a machine: what was decided for its ports comes in, and what they hear goes out (profile).
abbrev pub segment_machine : Wiring → ℕ → Machine SegmentState
segment_machine w L = record { step = segment_step w L; gives = ports_hear_on w L }
