-- What a segment hands out, and how few windows there are.
use Rattle.std.proofs.Common.{◌≡◌, ℕ, ◌*◌, ◌<◌, ◌≤◌, false, List, ◌++◌, sym, ap, ap₂, ◌∙◌, arith, mul-le-mul_right}
use Rattle.mac_parameters.specs.Parameters.{most_half_bits}
use Rattle.manchester_line.specs.Decoding.{new_decoding}
use Rattle.collision_log.specs.declared.row.Row.{Row}
use Rattle.load_plan.specs.declared.plan.Plan.{Plan}
use Rattle.mac_transmit.specs.Sender.{Sender}
use Rattle.network.specs.declared.outputs.Taken.{Taken}
use Rattle.network.proofs.RunnablePlans.{runnable_plan}
use Rattle.net_parts.specs.Windows.{lookahead, windows}
use Rattle.net_parts.specs.SegmentParts.{wiring}
use Rattle.net_parts.specs.OutputsOfParts.{rows_handed_out, captures_handed_out, cut_rows_on, rows_of_part, captures_of_part}
use Rattle.net_parts.specs.Parts.{part_at}
use Rattle.net_parts.proofs.RowsHandedOut.{parts_hand_out}
use Rattle.window_room.specs.Rooms.{Room}
use Rattle.segment_engine.specs.declared.running.Running.{Running}
use Rattle.segment_engine.specs.declared.segment.Segment.{Segment}
use Rattle.segment_engine.specs.KeptParts.{KeepsSegment, segment_state}
use Rattle.segment_engine.specs.RunningStates.{IsRunningAt}
use Rattle.segment_engine.proofs.KeptParts.{handed_rows, handed_captures, senders_now}
use Rattle.segment_engine.proofs.WindowParcels.{lead_some, window_begins}

module _ (of : Segment) (wd : ℕ) (a : Running) (last : wd ≡ windows of.plan.value) (k : KeepsSegment of a (part_at of.plan.value of.number wd)) where
  abbrev plan : Plan
  plan = of.plan.value

  pub rows_handed : (new : List Row) (ss : List Sender) → a.from ≡ a.t → ss ≡ a.senders.items → new ≡ a.room.rows ++ cut_rows_on a.t of.stations.items ss → new ≡ rows_of_part plan of.number
  rows_handed new ss settled senders is =
      let p = part_at plan of.number wd in
      let now = senders_now of a.from a.t a.lines.items a.watches.items a.senders.items a.receivers.items (record { since = 0; until = 0; carrier = false; told = 0 })
      (record { lose = 0; most = 0; deaf = false; halves = 0; decoder = new_decoding; steps = 0 }) settled k.behind in
      is
      ∙ ap₂ (λ xs ys. xs ++ ys) k.rows
      (ap₂ (λ v ns. cut_rows_on v ns ss) k.time of.station_numbers ∙ ap (cut_rows_on (segment_state p).t (wiring plan.layout of.number).stations) (senders ∙ now ∙ sym k.senders))
      ∙ handed_rows plan of.number p k.kind
      ∙ ap (λ v. rows_handed_out plan of.number (part_at plan of.number v)) last
      ∙ (parts_hand_out plan of.number of.within_parts).0

  pub captures_handed : (new : List (List Taken)) → new ≡ a.room.captures → new ≡ captures_of_part plan of.number
  captures_handed new is =
      is ∙ k.captures ∙ handed_captures (part_at plan of.number wd) k.kind ∙ ap (λ v. captures_handed_out (part_at plan of.number v)) last ∙ (parts_hand_out plan of.number of.within_parts).1

-- the same with other room
pub running_room : (of : Segment) (front : ℕ) (a : Running) (r : Room) → r.rows ≡ a.room.rows → r.captures ≡ a.room.captures → IsRunningAt of front a → IsRunningAt of front (record a { room = r })
running_room of front a r rows captures is =
    let goes = is.goes in
    record {
      goes = record {
        begun = goes.begun;
        upto = goes.upto;
        stations = goes.stations;
        still = goes.still;
        lines = goes.lines;
        ends = goes.ends;
        hears = goes.hears;
        logged = rows ∙ goes.logged;
        kept = captures ∙ goes.kept;
        room = goes.room;
        reach = goes.reach;
        listing = goes.listing;
        late = goes.late;
        piece = goes.piece;
      };
      near = is.near;
    }

pub kept_room : (of : Segment) (wd : ℕ) (a : Running) (r : Room) → r.rows ≡ a.room.rows → r.captures ≡ a.room.captures → KeepsSegment of a (part_at of.plan.value of.number wd) →
    KeepsSegment of (record a { room = r }) (part_at of.plan.value of.number wd)
kept_room of wd a r rows captures is = record {
  kind = is.kind;
  time = is.time;
  behind = is.behind;
  senders = is.senders;
  receivers = is.receivers;
  rows = rows ∙ is.rows;
  captures = captures ∙ is.captures;
}

-- a run has few windows
pub few_windows : (plan : Plan) (wd : ℕ) → wd < windows plan → wd < most_half_bits
few_windows plan wd some =
    let L = lookahead plan.layout in
    let lead = lead_some plan wd some in
    let begins = window_begins plan wd some in
    let short = (runnable_plan plan).short in
    let wide : 1 * wd ≤ L * wd = mul-le-mul_right wd lead in
    omega (arith, begins, short, wide)
