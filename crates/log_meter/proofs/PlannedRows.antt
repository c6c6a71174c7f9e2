-- The rows of every plan can stand in a log: their numbers are in range, and their half bits never fall.
use Rattle.std.proofs.Common.{◌≡◌, ℕ, zero, suc, ◌+◌, ◌<◌, ◌≤◌, true, false, leb, eqb, Option, Some, None, List, [], ◌∷◌, ◌++◌, map, length, take, drop, length-append, refl, sym, ap, subst, ◌∙◌, arith}
use Rattle.std.specs.Prelude.{IfSome}
use Rattle.std.specs.List.{AllByRecursion}
use Rattle.std.proofs.lemmas.Bool.Decides.{nat_tests}
use Rattle.std.proofs.lemmas.List.{length-map, length-replicate}
use Rattle.std.proofs.lemmas.List.Elements.{recursion_from_All}
use Rattle.mac_parameters.specs.Parameters.{most_octets, most_ports, most_half_bits}
use Rattle.manchester_line.specs.declared.Sym.{Sym}
use Rattle.manchester_line.specs.Line.{is_signal}
use Rattle.frame_layout.specs.declared.queue.Ready.{Ready}
use Rattle.collision_log.specs.declared.row.Body.{Body}
use Rattle.collision_log.specs.declared.row.Row.{Row}
use Rattle.layout.specs.Sound.{IsSound, device_names}
use Rattle.layout.specs.declared.lines.Layout.{Layout}
use Rattle.layout.specs.declared.lines.RepeaterLine.{RepeaterLine}
use Rattle.layout.specs.declared.lines.StationLine.{StationLine}
use Rattle.load_plan.specs.declared.plan.Plan.{Plan}
use Rattle.load_plan.proofs.PlansAreSound.{sound_of_plan}
use Rattle.mac_transmit.specs.Sender.{SendOutcome, Sender, cut_of}
use Rattle.mac_receive.specs.Receiver.{Receiving, Reception}
use Rattle.port_partition.specs.Guard.{new_guard}
use Rattle.repeater_core.specs.Step.{RepeaterDevice, after}
use Rattle.network.specs.Net.{Net, each_repeater, net, new_receiver, new_repeater, new_senders, ports_hear, receptions, receptions_in, rows_in, sendings, sendings_in, stations_emit, stations_hear}
use Rattle.network.specs.Outputs.{cut_rows, half_bits, rows}
use Rattle.network.specs.Rows.{repeater_bodies, repeater_rows, row_of, rows_of, rows_of_bodies}
use Rattle.network.proofs.StationAttempts.{shape_of}
use Rattle.log_meter.specs.LoggedRows.{AreLoggable, IsLoggable, logged_lines}
use Rattle.log_meter.specs.Logs.{NeverFalls, last_half_bit}
use Rattle.log_meter.proofs.RowsOfRepeaters.{HasFewPorts, IsRepeaterBody, all_append, repeater_goes_on, repeater_in_range}
use Rattle.log_meter.proofs.RowsOfStations.{IsReceiverBefore, IsSenderBefore, IsStationBody, cut_in_range, receiver_goes_on, sender_goes_on, sender_in_range}

-- ---- the devices before each half bit

record IsNetBefore (l : Layout) (t : ℕ) (n : Net) : Type 0 where
  time : n.t ≡ t
  senders : AllByRecursion (IsSenderBefore t) n.senders
  receivers : AllByRecursion (IsReceiverBefore t) n.receivers
  repeaters : AllByRecursion HasFewPorts n.repeaters
  repeaters_many : length n.repeaters ≤ length l.repeaters

new_senders_before : (seed k : ℕ) (qs : List (List Ready)) → AllByRecursion (IsSenderBefore 0) (new_senders seed k qs)
new_senders_before seed k [] = tt
new_senders_before seed k (q ∷ qs) = (record { time = refl; place = omega arith; attempt = omega arith; begun = tt }, new_senders_before seed (k + 1) qs)

new_receivers_before : (most : ℕ) (ss : List StationLine) → AllByRecursion (IsReceiverBefore 0) (map (new_receiver most) ss)
new_receivers_before most [] = tt
new_receivers_before most (s ∷ ss) = (omega arith, new_receivers_before most ss)

new_repeaters_before : (rs : List RepeaterLine) → AllByRecursion (λ r. length r.ports ≤ most_ports) rs → AllByRecursion HasFewPorts (map new_repeater rs)
new_repeaters_before [] few = tt
new_repeaters_before (r ∷ rs) few = (omega (arith, few.0, length-replicate (length r.ports) new_guard), new_repeaters_before rs few.1)

senders_go_on : (t : ℕ) (hs : List Sym) (ss : List Sender) → AllByRecursion (IsSenderBefore t) ss → AllByRecursion (IsSenderBefore (t + 1)) (map (λ (o : SendOutcome). o.state) (sendings hs ss))
senders_go_on t [] ss h = tt
senders_go_on t (s ∷ hs) [] h = tt
senders_go_on t (s ∷ hs) (x ∷ ss) h = (sender_goes_on t x s h.0, senders_go_on t hs ss h.1)

receivers_go_on : (t : ℕ) (hs es : List Sym) (rs : List Receiving) → t ≤ most_half_bits → AllByRecursion (IsReceiverBefore t) rs → AllByRecursion (IsReceiverBefore (t + 1)) (map (λ (r : Reception). r.state) (receptions hs es rs))
receivers_go_on t [] es rs late h = tt
receivers_go_on t (s ∷ hs) [] rs late h = tt
receivers_go_on t (s ∷ hs) (e ∷ es) [] late h = tt
receivers_go_on t (s ∷ hs) (e ∷ es) (r ∷ rs) late h = ((receiver_goes_on t r s (is_signal e) late h.0).0, receivers_go_on t hs es rs late h.1)

repeaters_go_on : (hears : List Sym) (rs : List RepeaterDevice) → AllByRecursion HasFewPorts rs → AllByRecursion HasFewPorts (each_repeater after hears rs)
repeaters_go_on hears [] h = tt
repeaters_go_on hears (r ∷ rs) h = (repeater_goes_on (take (length r.guards) hears) r h.0, repeaters_go_on (drop (length r.guards) hears) rs h.1)

as_many : {X : Type 0} (f : List Sym → RepeaterDevice → X) (hears : List Sym) (rs : List RepeaterDevice) → length (each_repeater f hears rs) ≡ length rs
as_many f hears [] = refl
as_many f hears (r ∷ rs) = ap suc (as_many f (drop (length r.guards) hears) rs)

-- ---- the rows of a half bit

-- a row of half bit t that can stand in a log
record IsRowAt (l : Layout) (t : ℕ) (row : Row) : Type 0 where
  loggable : IsLoggable l row
  time : row.t ≡ t

devices : (l : Layout) → length (device_names l) ≡ length l.stations + length l.repeaters
devices l =
    let sum = length-append (map (λ (s : StationLine). s.name) l.stations) (map (λ (r : RepeaterLine). r.name) l.repeaters) in
    omega (arith, sum, length-map l.stations (λ (s : StationLine). s.name), length-map l.repeaters (λ (r : RepeaterLine). r.name))

of_station : (l : Layout) (t k : ℕ) (body : Body) → t ≤ most_half_bits → k < length l.stations → IsStationBody t body → IsRowAt l t (record { t = t; device = k; body = body })
of_station l t k body late within h =
    let other : leb (length l.stations) k ≡ false = grind (arith, nat_tests) in
    record {
      loggable = record { time = late; device = omega (arith, within, devices l); kind = other ∙ sym h.kind; numbers = h.numbers };
      time = refl;
    }

of_repeater : (l : Layout) (t k : ℕ) (body : Body) → t ≤ most_half_bits → length l.stations ≤ k → k < length l.stations + length l.repeaters → IsRepeaterBody t body → IsRowAt l t (record { t = t; device = k; body = body })
of_repeater l t k body late after_stations within h =
    let is : leb (length l.stations) k ≡ true = grind (arith, nat_tests) in
    record {
      loggable = record { time = late; device = omega (arith, within, devices l); kind = is ∙ sym h.kind; numbers = h.numbers };
      time = refl;
    }

row_of_station : (l : Layout) (t k : ℕ) (e : Option Body) → t ≤ most_half_bits → k < length l.stations → IfSome e (IsStationBody t) → AllByRecursion (IsRowAt l t) (row_of t k e)
row_of_station l t k None late within h = tt
row_of_station l t k (Some body) late within h = (of_station l t k body late within h, tt)

rows_of_stations : (l : Layout) (t k : ℕ) (hs es : List Sym) (hs' : List Sym) (ss : List Sender) (rs : List Receiving) → t ≤ most_half_bits → k + length ss ≤ length l.stations
    → AllByRecursion (IsSenderBefore t) ss → AllByRecursion (IsReceiverBefore t) rs
    → AllByRecursion (IsRowAt l t) (rows_of t k (map (λ (o : SendOutcome). o.event) (sendings hs ss)) (map (λ (r : Reception). r.event) (receptions hs' es rs)))
rows_of_stations l t k [] es hs' ss rs late within s r = tt
rows_of_stations l t k (h ∷ hs) es hs' [] rs late within s r = tt
rows_of_stations l t k (h ∷ hs) es [] (x ∷ ss) rs late within s r = tt
rows_of_stations l t k (h ∷ hs) [] (h' ∷ hs') (x ∷ ss) rs late within s r = tt
rows_of_stations l t k (h ∷ hs) (e ∷ es) (h' ∷ hs') (x ∷ ss) [] late within s r = tt
rows_of_stations l t k (h ∷ hs) (e ∷ es) (h' ∷ hs') (x ∷ ss) (y ∷ rs) late within s r =
    all_append (IsRowAt l t) _ _
    (all_append (IsRowAt l t) _ _
    (row_of_station l t k _ late (omega (arith, within)) (sender_in_range t x h late s.0))
    (row_of_station l t k _ late (omega (arith, within)) (receiver_goes_on t y h' (is_signal e) late r.0).1))
    (rows_of_stations l t (k + 1) hs es hs' ss rs late (omega (arith, within)) s.1 r.1)

rows_of_one : (l : Layout) (t k : ℕ) (bodies : List Body) → t ≤ most_half_bits → length l.stations ≤ k → k < length l.stations + length l.repeaters → AllByRecursion (IsRepeaterBody t) bodies
    → AllByRecursion (IsRowAt l t) (rows_of_bodies t k bodies)
rows_of_one l t k [] late after_stations within h = tt
rows_of_one l t k (body ∷ bodies) late after_stations within h = (of_repeater l t k body late after_stations within h.0, rows_of_one l t k bodies late after_stations within h.1)

rows_of_repeaters : (l : Layout) (t k : ℕ) (hears : List Sym) (rs : List RepeaterDevice) → t ≤ most_half_bits → length l.stations ≤ k → k + length rs ≤ length l.stations + length l.repeaters → AllByRecursion HasFewPorts rs
    → AllByRecursion (IsRowAt l t) (repeater_rows t k (each_repeater repeater_bodies hears rs))
rows_of_repeaters l t k hears [] late after_stations within h = tt
rows_of_repeaters l t k hears (r ∷ rs) late after_stations within h =
    all_append (IsRowAt l t) _ _
    (rows_of_one l t k (repeater_bodies (take (length r.guards) hears) r) late after_stations (omega (arith, within)) (repeater_in_range t (take (length r.guards) hears) r h.0))
    (rows_of_repeaters l t (k + 1) (drop (length r.guards) hears) rs late (omega (arith, after_stations)) (omega (arith, within)) h.1)

rows_now : (plan : Plan) (t : ℕ) → t ≤ most_half_bits → IsNetBefore plan.layout t (net plan t) → AllByRecursion (IsRowAt plan.layout t) (rows_in (net plan t))
rows_now plan t late h =
    let n = net plan t in
    let stations : length n.senders ≡ length plan.layout.stations = (shape_of plan t).senders in
    subst
    (λ u. AllByRecursion (IsRowAt plan.layout t) (rows_of u 0 (map (λ (o : SendOutcome). o.event) (sendings_in n)) (map (λ (r : Reception). r.event) (receptions_in n)) ++ repeater_rows u (length n.senders) (each_repeater repeater_bodies (ports_hear n) n.repeaters)))
    (sym h.time)
    (all_append (IsRowAt plan.layout t) _ _
    (rows_of_stations plan.layout t 0 (stations_hear n) (stations_emit n) (stations_hear n) n.senders n.receivers late (omega (arith, stations)) h.senders h.receivers)
    (rows_of_repeaters plan.layout t (length n.senders) (ports_hear n) n.repeaters late (omega (arith, stations)) (omega (arith, stations, h.repeaters_many)) h.repeaters))

cut_rows_now : (l : Layout) (t k : ℕ) (ss : List Sender) → t ≤ most_half_bits → k + length ss ≤ length l.stations → AllByRecursion (IsSenderBefore t) ss → AllByRecursion (IsRowAt l t) (cut_rows t k ss)
cut_rows_now l t k [] late within h = tt
cut_rows_now l t k (s ∷ ss) late within h =
    all_append (IsRowAt l t) (row_of t k (cut_of s)) (cut_rows t (k + 1) ss)
    (row_of_station l t k (cut_of s) late (omega (arith, within)) (cut_in_range t s late h.0))
    (cut_rows_now l t (k + 1) ss late (omega (arith, within)) h.1)

-- ---- their order

record AreRowsBefore (l : Layout) (t : ℕ) (rows : List Row) : Type 0 where
  each : AllByRecursion (IsLoggable l) rows
  order : NeverFalls 0 (logged_lines l rows)
  last : last_half_bit 0 (logged_lines l rows) ≤ t

level : (l : Layout) (u t : ℕ) (rows : List Row) → u ≤ t → AllByRecursion (IsRowAt l t) rows → NeverFalls u (logged_lines l rows) × (last_half_bit u (logged_lines l rows) ≤ t)
level l u t [] le h = (tt, le)
level l u t (row ∷ rows) le h =
    let now : row.t ≡ t = h.0.time in
    let rest = level l row.t t rows (omega (arith, now)) h.1 in
    ((omega (arith, le, now), rest.0), rest.1)

goes_up : (l : Layout) (u t : ℕ) (rows more : List Row) → NeverFalls u (logged_lines l rows) → last_half_bit u (logged_lines l rows) ≤ t → AllByRecursion (IsRowAt l t) more
    → NeverFalls u (logged_lines l (rows ++ more)) × (last_half_bit u (logged_lines l (rows ++ more)) ≤ t)
goes_up l u t [] more order last h = level l u t more last h
goes_up l u t (row ∷ rows) more order last h =
    let rest = goes_up l row.t t rows more order.1 last h in
    ((order.0, rest.0), rest.1)

loggable_at : (l : Layout) (t : ℕ) (rows : List Row) → AllByRecursion (IsRowAt l t) rows → AllByRecursion (IsLoggable l) rows
loggable_at l t [] h = tt
loggable_at l t (row ∷ rows) h = (h.0.loggable, loggable_at l t rows h.1)

add_rows : (l : Layout) (t : ℕ) (rows more : List Row) → AreRowsBefore l t rows → AllByRecursion (IsRowAt l t) more → AreRowsBefore l t (rows ++ more)
add_rows l t rows more before h =
    let up = goes_up l 0 t rows more before.order before.last h in
    record { each = all_append (IsLoggable l) rows more before.each (loggable_at l t more h); order = up.0; last = up.1 }

later : (l : Layout) (t : ℕ) (rows : List Row) → AreRowsBefore l t rows → AreRowsBefore l (t + 1) rows
later l t rows h = record { each = h.each; order = h.order; last = omega (arith, h.last) }

-- ---- the whole run

few_ports : (l : Layout) → IsSound l → AllByRecursion (λ r. length r.ports ≤ most_ports) l.repeaters
few_ports l sound = recursion_from_All _ l.repeaters (λ k d lt. (sound.repeaters k d lt).ports_most)

before : (plan : Plan) (t : ℕ) → t ≤ most_half_bits → IsNetBefore plan.layout t (net plan t)
before plan zero late =
    record {
      time = refl;
      senders = new_senders_before plan.layout.seed 0 plan.queues;
      receivers = new_receivers_before (most_octets (eqb plan.layout.format 2)) plan.layout.stations;
      repeaters = new_repeaters_before plan.layout.repeaters (few_ports plan.layout (sound_of_plan plan));
      repeaters_many = omega (arith, length-map plan.layout.repeaters new_repeater);
    }
before plan (suc t) late =
    let h = before plan t (omega (arith, late)) in
    let n = net plan t in
    let plus : t + 1 ≡ suc t = omega arith in
    subst (λ u. IsNetBefore plan.layout u (net plan (suc t))) plus (record {
      time = omega (arith, h.time);
      senders = senders_go_on t (stations_hear n) n.senders h.senders;
      receivers = receivers_go_on t (stations_hear n) (stations_emit n) n.receivers (omega (arith, late)) h.receivers;
      repeaters = repeaters_go_on (ports_hear n) n.repeaters h.repeaters;
      repeaters_many = omega (arith, as_many after (ports_hear n) n.repeaters, h.repeaters_many);
    })

rows_before : (plan : Plan) (t : ℕ) → t ≤ most_half_bits → AreRowsBefore plan.layout t (net plan t).rows
rows_before plan zero late = record { each = tt; order = tt; last = omega arith }
rows_before plan (suc t) late =
    let n = net plan t in
    let so_far = rows_before plan t (omega (arith, late)) in
    let now = rows_now plan t (omega (arith, late)) (before plan t (omega (arith, late))) in
    let plus : t + 1 ≡ suc t = omega arith in
    subst (λ u. AreRowsBefore plan.layout u (net plan (suc t)).rows) plus (later plan.layout t (n.rows ++ rows_in n) (add_rows plan.layout t n.rows (rows_in n) so_far now))

pub planned_rows : (plan : Plan) → AreLoggable plan.layout (rows plan)
unfolding rows
planned_rows plan =
    let h = half_bits plan in
    let n = net plan h in
    let late : h ≤ most_half_bits = omega (arith, (sound_of_plan plan).bits_most) in
    let stations : length n.senders ≡ length plan.layout.stations = (shape_of plan h).senders in
    let all = add_rows plan.layout h n.rows (cut_rows h 0 n.senders) (rows_before plan h late)
    (cut_rows_now plan.layout h 0 n.senders late (omega (arith, stations)) (before plan h late).senders) in
    record { each = all.each; order = all.order }
