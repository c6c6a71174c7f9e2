-- The lines of a segment's ports at the front of a window, and how far its watches go.
use Rattle.std.proofs.Common.{◌≡◌, ℕ, ◌+◌, ◌*◌, ◌-◌, ◌<◌, ◌≤◌, ◌^◌, false, List, map, length, get_or, sym, subst, ap, ap₂, ◌∙◌, arith}
use Rattle.std.proofs.lemmas.List.{get_or-map, length-map}
use Rattle.mac_parameters.specs.Parameters.{most_half_bits}
use Rattle.manchester_line.specs.Decoding.{new_decoding}
use Rattle.load_plan.specs.declared.plan.Plan.{Plan}
use Rattle.mac_receive.specs.KeptReceiver.{KeptReception}
use Rattle.network.specs.Attempts.{sender_at}
use Rattle.net_parts.specs.Machines.{span}
use Rattle.net_parts.specs.SegmentParts.{wiring}
use Rattle.net_parts.specs.Standing.{arrives}
use Rattle.net_parts.specs.declared.parcel.Parcel.{Parcel}
use Rattle.tap_lines.specs.TapLines.{no_line}
use Rattle.segment_engine.specs.declared.apart.Watch.{Watch}
use Rattle.segment_engine.specs.declared.running.Running.{Running}
use Rattle.segment_engine.specs.declared.segment.Segment.{Segment}
use Rattle.segment_engine.specs.PartStates.{half_filled}
use Rattle.segment_engine.specs.RunningStates.{IsRunningAt}
use Rattle.segment_engine.proofs.RoomOfLines.{takes_in}

a_kept : KeptReception
a_kept = record { lose = 0; most = 0; deaf = false; halves = 0; decoder = new_decoding; steps = 0 }

module _ (of : Segment) (a : Running) (front : ℕ) (at : IsRunningAt of front a) (now : a.t ≡ front) (in_time : a.t ≤ most_half_bits) where
  pub port_ends : (p : ℕ) → p < length (wiring of.plan.value.layout of.number).edges →
      (get_or a.lines.items (length (wiring of.plan.value.layout of.number).stations + p) no_line).base
      + length (get_or a.lines.items (length (wiring of.plan.value.layout of.number).stations + p) no_line).symbols ≡ a.t
  port_ends p h =
      subst (λ n. (get_or a.lines.items (n + p) no_line).base + length (get_or a.lines.items (n + p) no_line).symbols ≡ a.t) (ap length of.station_numbers)
      (at.goes.ends p h ∙ sym now)

  pub port_room : (p : ℕ) → p < length (wiring of.plan.value.layout of.number).edges →
      of.lookahead ≤ (get_or a.lines.items (length (wiring of.plan.value.layout of.number).stations + p) no_line).room
  port_room p h =
      let w = wiring of.plan.value.layout of.number in
      let many = at.goes.lines.many in
      takes_in of front a at in_time (length w.stations + p) (omega (arith, h, many)) (port_ends p h)

  pub watch_fits : (i : ℕ) (w : Watch) → i < length a.watches.items → (get_or a.watches.items i w).until < 2 ^ 64
  watch_fits i w h =
      let many = at.goes.stations.watches in
      let one = at.goes.stations.each i w (sender_at of.plan.value 0 0) a_kept (omega (arith, h, many)) in
      let within = one.within in
      let early = one.since in
      omega (arith, within, early, in_time)

-- what a parcel has before the first half bit of its window
pub came_symbols : (plan : Plan) (L wd t p : ℕ) (es : List ℕ) (ps : List Parcel) (d : Parcel) → t ≡ wd * L → ps ≡ map (half_filled plan L wd 0) es → p < length ps →
    (get_or ps p d).symbols ≡ span (arrives plan L (get_or es p 0)) t L
came_symbols plan L wd t p es ps d at were h =
    let n = length-map es (half_filled plan L wd 0) in
    let size = ap length were in
    let in_it : p < length es = omega (arith, h, n, size) in
    let place : wd * L + 0 ≡ t = omega (arith, at) in
    let left : L - 0 ≡ L = omega arith in
    ap (λ xs. (get_or xs p d).symbols) were
    ∙ ap (λ (q : Parcel). q.symbols) (get_or-map (half_filled plan L wd 0) es p 0 d in_it)
    ∙ ap₂ (span (arrives plan L (get_or es p 0))) place left
