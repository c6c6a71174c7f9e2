-- Two near stations on one segment that both have a frame in half bit 0 overlap, and each is hit as the other is heard.
use Rattle.std.proofs.Common.{◌≡◌, ◌≢◌, ℕ, zero, suc, ◌+◌, ◌-◌, ◌<◌, ◌≤◌, Bool, true, false, cond, leb, eqb, ◌&&◌, not, Option, Some, List, [], ◌∷◌, ◌++◌, map, length, get_or, slice_get, option_map, unwrap_or, refl, sym, ap, ap₂, subst, ◌∙◌, inl, arith}
use Rattle.std.specs.List.{flat_map}
use Rattle.std.proofs.lemmas.Bool.{cond-false}
use Rattle.std.proofs.lemmas.Bool.Decides.{nat_tests}
use Rattle.manchester_line.specs.declared.Sym.{Sym}
use Rattle.manchester_line.specs.declared.Sym.TheVariants.{Idle}
use Rattle.manchester_line.specs.Line.{mix_of}
use Rattle.backoff_draw.specs.Draws.{Drawing, draw_of}
use Rattle.collision_log.specs.declared.row.Body.{Body}
use Rattle.collision_log.specs.declared.row.Body.TheVariants.{Collided}
use Rattle.collision_log.specs.declared.row.Row.{Row}
use Rattle.layout.specs.declared.lines.Layout.{Layout}
use Rattle.layout.specs.declared.lines.PortLine.{PortLine}
use Rattle.layout.specs.declared.lines.RepeaterLine.{RepeaterLine}
use Rattle.layout.specs.declared.lines.StationLine.{StationLine}
use Rattle.layout.specs.declared.ways.Attachment.TheVariants.{Station}
use Rattle.layout.specs.declared.ways.Way.TheVariants as way
use Rattle.layout.specs.Paths.{IsStep, place, step_length, length_of}
use Rattle.layout.specs.Taps.{tap_of, taps_of}
use Rattle.mac_parameters.specs.Distances.{distance}
use Rattle.mac_parameters.specs.Parameters.{least_frame, preamble_length, shortest_sending}
use Rattle.frame_layout.specs.declared.queue.Ready.{Ready}
use Rattle.load_plan.specs.declared.plan.Plan.{Plan}
use Rattle.mac_transmit.specs.Attempts.{Finishes, run, emits}
use Rattle.mac_transmit.specs.Sender.{new_sender, end_event}
use Rattle.network.specs.Attempts.{IsOpenPath, sender_at}
use Rattle.network.specs.Hearing.{heard_of}
use Rattle.network.specs.Signals.{row_of_attempt}
use Rattle.network.specs.Times.{heard, emitted, earlier}
use Rattle.network.proofs.SegmentsCarry.{carries}
use Rattle.network.proofs.StationAttempts.{station_runs, station_emits}
use Rattle.network.proofs.AbsoluteTimes.{heard_is}
use Rattle.overlap_exists.specs.DetectedCollisions.{first_collision}
use Rattle.overlap_exists.specs.NearPairs.{IsNearPair, BothAreReady, hit_in_preamble, NearPairsOverlap}
use Rattle.overlap_exists.proofs.HitsInPreamble.{finishes, collided, emits_first}

-- what the two taps hear
no_tap : PortLine
no_tap = record { segment = 0; at = 0 }

taps_are : (l : Layout) (a b : StationLine) → l.stations ≡ a ∷ b ∷ [] → l.repeaters ≡ [] → taps_of l ≡ tap_of a ∷ tap_of b ∷ []
taps_are l a b e r = ap₂ (λ xs rs. map tap_of xs ++ flat_map (λ (x : RepeaterLine). x.ports) rs) e r

too_early : (d t : ℕ) → t < d → leb d t ≡ false
too_early d t h = grind (arith, nat_tests)

early : (f : ℕ → Sym) (d t : ℕ) → t < d → earlier f t d ≡ Idle
early f d t l = cond-false (leb d t) (f (t - d)) Idle (too_early d t l)

mix_quiet : (b : Bool) (s : Sym) → s ≡ Idle → cond b s Idle ≡ Idle
mix_quiet true s e = e
mix_quiet false s e = refl

mixes_quiet : (x y : Sym) → x ≡ Idle → y ≡ Idle → mix_of x (mix_of y Idle) ≡ Idle
mixes_quiet x y e f = ap₂ (λ x y. mix_of x (mix_of y Idle)) e f

never : (b : Bool) → (b && false) ≡ false
never true = refl
never false = refl

-- before the other's first half bit has come, neither hears anything
first_hears_idle : (told : ℕ → ℕ → Sym) (a b : PortLine) → told (distance a.at b.at) 1 ≡ Idle → heard_of told 0 a 0 (a ∷ b ∷ []) ≡ Idle
first_hears_idle told a b e =
    mixes_quiet _ _ (cond-false (eqb a.segment a.segment && not (eqb 0 0)) (told (distance a.at a.at) 0) Idle (never (eqb a.segment a.segment)))
    (mix_quiet (eqb b.segment a.segment && not (eqb 1 0)) (told (distance a.at b.at) 1) e)

second_hears_idle : (told : ℕ → ℕ → Sym) (a b : PortLine) → told (distance b.at a.at) 0 ≡ Idle → heard_of told 1 b 0 (a ∷ b ∷ []) ≡ Idle
second_hears_idle told a b e =
    mixes_quiet _ _ (mix_quiet (eqb a.segment b.segment && not (eqb 0 1)) (told (distance b.at a.at) 0) e)
    (cond-false (eqb b.segment b.segment && not (eqb 1 1)) (told (distance b.at b.at) 1) Idle (never (eqb b.segment b.segment)))

quiet_first : (plan : Plan) (d : ℕ) → BothAreReady plan d → (t : ℕ) → t < d → heard plan 0 t ≡ Idle
quiet_first plan d k t l =
    let taps = taps_are plan.layout k.pair.a k.pair.b k.pair.stations k.pair.repeaters in
    let two : length (taps_of plan.layout) ≡ 2 = ap length taps in
    let apart : distance k.pair.a.at k.pair.b.at ≡ d = k.pair.apart in
    heard_is plan t 0 no_tap (omega (arith, two))
    ∙ ap (λ xs. heard_of (λ back q. earlier (emitted plan q) t back) 0 (get_or xs 0 no_tap) 0 xs) taps
    ∙ first_hears_idle (λ back q. earlier (emitted plan q) t back) (tap_of k.pair.a) (tap_of k.pair.b) (ap (earlier (emitted plan 1) t) apart ∙ early (emitted plan 1) d t l)

pub turned : (x y : ℕ) → distance y x ≡ distance x y
turned x y = omega arith

quiet_second : (plan : Plan) (d : ℕ) → BothAreReady plan d → (t : ℕ) → t < d → heard plan 1 t ≡ Idle
quiet_second plan d k t l =
    let taps = taps_are plan.layout k.pair.a k.pair.b k.pair.stations k.pair.repeaters in
    let two : length (taps_of plan.layout) ≡ 2 = ap length taps in
    let apart : distance k.pair.b.at k.pair.a.at ≡ d = turned k.pair.a.at k.pair.b.at ∙ k.pair.apart in
    heard_is plan t 1 no_tap (omega (arith, two))
    ∙ ap (λ xs. heard_of (λ back q. earlier (emitted plan q) t back) 1 (get_or xs 1 no_tap) 0 xs) taps
    ∙ second_hears_idle (λ back q. earlier (emitted plan q) t back) (tap_of k.pair.a) (tap_of k.pair.b) (ap (earlier (emitted plan 0) t) apart ∙ early (emitted plan 0) d t l)

-- the senders
count : (plan : Plan) (d : ℕ) → BothAreReady plan d → length plan.layout.stations ≡ 2
count plan d k = ap length k.pair.stations

-- one of the two stations, which hears nothing before half bit d
record IsOneOfTwo (plan : Plan) (d i : ℕ) : Type 0 where
  low : i < length plan.layout.stations
  f : Ready
  fs : List Ready
  queue : get_or plan.queues i [] ≡ f ∷ fs
  at : f.at ≡ 0
  text : least_frame ≤ length f.frame
  some : 1 ≤ d
  short : d < preamble_length
  quiet : (t : ℕ) → t < d → heard plan i t ≡ Idle

one : (plan : Plan) (d : ℕ) → BothAreReady plan d → IsOneOfTwo plan d 0
one plan d k = record {
  low = omega (arith, count plan d k);
  f = k.f;
  fs = k.fs;
  queue = ap (λ qs. get_or qs 0 []) k.queues;
  at = k.first;
  text = k.first_text;
  some = k.pair.some;
  short = k.pair.short;
  quiet = quiet_first plan d k;
}

two : (plan : Plan) (d : ℕ) → BothAreReady plan d → IsOneOfTwo plan d 1
two plan d k = record {
  low = omega (arith, count plan d k);
  f = k.g;
  fs = k.gs;
  queue = ap (λ qs. get_or qs 1 []) k.queues;
  at = k.second;
  text = k.second_text;
  some = k.pair.some;
  short = k.pair.short;
  quiet = quiet_second plan d k;
}

abbrev drawing_of : Plan → ℕ → Drawing
drawing_of plan i = record { seed = plan.layout.seed; station = i; made = 0 }

emits_at_once : (plan : Plan) (d i : ℕ) → IsOneOfTwo plan d i → emitted plan i 0 ≢ Idle
emits_at_once plan d i o idle =
    emits_first o.f o.fs (drawing_of plan i) (heard plan i) o.at o.text (o.quiet 0 o.some)
    (sym (station_emits plan i 0 o.low ∙ ap (λ q. emits (new_sender q (drawing_of plan i)) (heard plan i) 0) o.queue) ∙ idle)

runs : (plan : Plan) (d i : ℕ) → (o : IsOneOfTwo plan d i) → sender_at plan i shortest_sending ≡ run (new_sender (o.f ∷ o.fs) (drawing_of plan i)) (heard plan i) shortest_sending
runs plan d i o = station_runs plan i shortest_sending o.low ∙ ap (λ q. run (new_sender q (drawing_of plan i)) (heard plan i) shortest_sending) o.queue

ends_in_preamble : (plan : Plan) (d i : ℕ) → IsOneOfTwo plan d i → heard plan i d ≢ Idle → Finishes (sender_at plan i shortest_sending) (hit_in_preamble d)
ends_in_preamble plan d i o hears =
    subst (λ s. Finishes s (hit_in_preamble d)) (sym (runs plan d i o))
    (finishes o.f o.fs (drawing_of plan i) (heard plan i) d o.at o.text o.some o.short o.quiet hears)

leaves_row : (plan : Plan) (d i : ℕ) → IsOneOfTwo plan d i → heard plan i d ≢ Idle → row_of_attempt plan i (hit_in_preamble d) ≡ first_collision plan i d
leaves_row plan d i o hears =
    let body : end_event (sender_at plan i shortest_sending) 0 (Some d) ≡ Collided 1 0 1 d (draw_of plan.layout.seed i 0 1) =
    ap (λ s. end_event s 0 (Some d)) (runs plan d i o)
    ∙ collided o.f o.fs (drawing_of plan i) (heard plan i) d o.at o.text o.some o.short o.quiet hears in
    ap (λ (b : Body). (let row : Row = record { t = shortest_sending; device = i; body = b } in row)) body

-- the steps from one to the other
place_0 : (l : Layout) (a b : StationLine) → l.stations ≡ a ∷ b ∷ [] → place l (Station 0) ≡ Some (tap_of a)
place_0 l a b e = ap (λ (xs : List StationLine). option_map tap_of (slice_get xs 0)) e

place_1 : (l : Layout) (a b : StationLine) → l.stations ≡ a ∷ b ∷ [] → place l (Station 1) ≡ Some (tap_of b)
place_1 l a b e = ap (λ (xs : List StationLine). option_map tap_of (slice_get xs 1)) e

abbrev part_at : Option PortLine → Option ℕ
part_at p = option_map (λ (x : PortLine). x.segment) p

pub cable_to : (l : Layout) (d : ℕ) → IsNearPair l d → IsStep l way.Cable (Station 0) (Station 1)
cable_to l d k = record {
  different = λ e. cc;
  part = k.a.segment;
  from = ap part_at (place_0 l k.a k.b k.stations);
  to = ap part_at (place_1 l k.a k.b k.stations) ∙ ap Some (sym k.segment);
}

cable_back : (l : Layout) (d : ℕ) → IsNearPair l d → IsStep l way.Cable (Station 1) (Station 0)
cable_back l d k = record {
  different = λ e. cc;
  part = k.a.segment;
  from = ap part_at (place_1 l k.a k.b k.stations) ∙ ap Some (sym k.segment);
  to = ap part_at (place_0 l k.a k.b k.stations);
}

abbrev at_in : Option PortLine → ℕ
at_in p = unwrap_or (option_map (λ (x : PortLine). x.at) p) 0

pub cable_to_long : (l : Layout) (d : ℕ) → IsNearPair l d → step_length l way.Cable (Station 0) (Station 1) ≡ d
cable_to_long l d k = ap₂ distance (ap at_in (place_0 l k.a k.b k.stations)) (ap at_in (place_1 l k.a k.b k.stations)) ∙ k.apart

cable_back_long : (l : Layout) (d : ℕ) → IsNearPair l d → step_length l way.Cable (Station 1) (Station 0) ≡ d
cable_back_long l d k = ap₂ distance (ap at_in (place_1 l k.a k.b k.stations)) (ap at_in (place_0 l k.a k.b k.stations)) ∙ turned k.a.at k.b.at ∙ k.apart

-- in half bit d each hears the other
hears_0 : (plan : Plan) (d : ℕ) → BothAreReady plan d → heard plan 0 d ≢ Idle
hears_0 plan d k =
    let long = cable_back_long plan.layout d k.pair in
    let n : 0 + step_length plan.layout way.Cable (Station 1) (Station 0) ≡ d = omega (arith, long) in
    subst (λ n. heard plan 0 n ≢ Idle) n (carries plan (Station 1) (Station 0) 0 (cable_back plan.layout d k.pair) (emits_at_once plan d 1 (two plan d k)))

hears_1 : (plan : Plan) (d : ℕ) → BothAreReady plan d → heard plan 1 d ≢ Idle
hears_1 plan d k =
    let long = cable_to_long plan.layout d k.pair in
    let n : 0 + step_length plan.layout way.Cable (Station 0) (Station 1) ≡ d = omega (arith, long) in
    subst (λ n. heard plan 1 n ≢ Idle) n (carries plan (Station 0) (Station 1) 0 (cable_to plan.layout d k.pair) (emits_at_once plan d 0 (one plan d k)))

-- each leaves its row
pub row_0 : (plan : Plan) (d : ℕ) → BothAreReady plan d → row_of_attempt plan 0 (hit_in_preamble d) ≡ first_collision plan 0 d
row_0 plan d k = leaves_row plan d 0 (one plan d k) (hears_0 plan d k)

pub row_1 : (plan : Plan) (d : ℕ) → BothAreReady plan d → row_of_attempt plan 1 (hit_in_preamble d) ≡ first_collision plan 1 d
row_1 plan d k = leaves_row plan d 1 (two plan d k) (hears_1 plan d k)

open_path : (plan : Plan) (from to : ℕ) → IsOpenPath plan from to (record { begins = way.Cable; taps = Station 1 ∷ [] })
open_path plan from to zero tap l = λ t _ _. (tt, tt)
open_path plan from to (suc n) tap l = absurd (omega arith)

pub near_pairs_overlap : NearPairsOverlap
near_pairs_overlap plan d k =
    let both = count plan d k in
    let long : length_of plan.layout (Station 0) (record { begins = way.Cable; taps = Station 1 ∷ [] }) ≡ d =
    (let far = cable_to_long plan.layout d k.pair in omega (arith, far)) in
    let short : d < preamble_length = k.pair.short in
    record {
      different = λ e. cc;
      first = record { station = omega (arith, both); finishes = ends_in_preamble plan d 0 (one plan d k) (hears_0 plan d k) };
      second = record { station = omega (arith, both); finishes = ends_in_preamble plan d 1 (two plan d k) (hears_1 plan d k) };
      path = record { begins = way.Cable; taps = Station 1 ∷ [] };
      leads = (cable_to plan.layout d k.pair, refl);
      overlap = inl (0, ((omega arith, omega arith), (omega (arith, long), omega (arith, long))));
      clear = open_path plan _ _;
    }
