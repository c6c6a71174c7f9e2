-- The rows of a run name what the plan has: frames of the stations' queues, and ports of the repeaters.
use Rattle.std.proofs.Common.{◌≡◌, ℕ, zero, suc, ◌+◌, ◌-◌, ◌<◌, ◌≤◌, true, Option, Some, None, List, [], ◌∷◌, ◌++◌, map, length, get_or, slice_get, take, drop, sym, ap, subst, ◌∙◌, inl, inr, arith}
use Rattle.std.specs.Prelude.{IfSome}
use Rattle.std.specs.List.{AllByRecursion}
use Rattle.std.proofs.lemmas.Bool.{cases_lt, le-ltb, lt-ltb}
use Rattle.std.proofs.lemmas.List.{length-map, length-replicate}
use Rattle.std.proofs.lemmas.Option.{slice_get-get_or}
use Rattle.manchester_line.specs.declared.Sym.{Sym}
use Rattle.collision_log.specs.declared.row.Body.{Body}
use Rattle.collision_log.specs.declared.row.Row.{Row}
use Rattle.layout.specs.declared.lines.RepeaterLine.{RepeaterLine}
use Rattle.load_plan.specs.declared.plan.Plan.{Plan}
use Rattle.mac_receive.specs.Receiver.{Reception}
use Rattle.mac_transmit.specs.Sender.{Sender, SendOutcome, cut_of}
use Rattle.port_partition.specs.Guard.{Guard, new_guard}
use Rattle.repeater_core.specs.Step.{RepeaterDevice, after, emitted_by, guards_after}
use Rattle.network.specs.Net.{each_repeater, net, new_repeater, ports_hear, receptions_in, rows_in, sendings_in, stations_emit, stations_hear}
use Rattle.network.specs.Outputs.{cut_rows, half_bits, rows}
use Rattle.network.specs.Rows.{repeater_bodies, repeater_rows, row_of, rows_of, rows_of_bodies}
use Rattle.network.proofs.StationAttempts.{many_sendings, shape_of}
use Rattle.log_meter.proofs.RowsOfRepeaters.{all_append}
use Rattle.frame_table.specs.Unplanned.{frames_queued, is_counted, is_had, port_named, ports_had}
use Rattle.run_frames.proofs.FramelessRows.{IsAtRepeater, NamesNone, receptions_frameless, repeater_there}
use Rattle.run_frames.proofs.NumberedFrames.{NamesOneOf}
use Rattle.run_frames.proofs.StationRuns.{cut_in_queue, cuts_in, event_in_queue, events_in, no_cut_past, no_event_past}

-- the plan has what a row names
abbrev pub IsHad : Plan → Row → Type 0
IsHad plan row = is_had plan row.device row.body ≡ true

-- ---- rows of stations

-- nothing happens at device k, or something that names what the plan has
abbrev HasIt : Plan → ℕ → Option Body → Type 0
HasIt plan k e = IfSome e (λ b. is_had plan k b ≡ true)

station_has : (plan : Plan) (k : ℕ) (b : Body) → k < length plan.layout.stations → NamesOneOf (frames_queued (slice_get plan.queues k)) b → is_had plan k b ≡ true
station_has plan k b lt h = rw (lt-ltb k (length plan.layout.stations) lt) h

station_has_if : (plan : Plan) (k : ℕ) (e : Option Body) → k < length plan.layout.stations → IfSome e (NamesOneOf (length (get_or plan.queues k []))) → HasIt plan k e
station_has_if plan k None lt h = tt
station_has_if plan k (Some b) lt h =
    let queues : length plan.queues ≡ length plan.layout.stations = plan.queued in
    let queued : frames_queued (slice_get plan.queues k) ≡ length (get_or plan.queues k []) = ap frames_queued (slice_get-get_or plan.queues k [] (omega (arith, lt, queues))) in
    station_has plan k b lt (subst (λ n. NamesOneOf n b) (sym queued) h)

frameless_has : (plan : Plan) (k : ℕ) (e : Option Body) → k < length plan.layout.stations → NamesNone e → HasIt plan k e
frameless_has plan k None lt none = tt
frameless_has plan k (Some b) lt none = station_has plan k b lt (ap (is_counted (frames_queued (slice_get plan.queues k))) none)

row_has : (plan : Plan) (t k : ℕ) (e : Option Body) → HasIt plan k e → AllByRecursion (IsHad plan) (row_of t k e)
row_has plan t k None h = tt
row_has plan t k (Some b) h = (h, tt)

rows_have : (plan : Plan) (t k : ℕ) (es rs : List (Option Body)) → k + length es ≤ length plan.layout.stations → ((i j : ℕ) → i ≡ k + j → HasIt plan i (get_or es j None)) → AllByRecursion NamesNone rs
    → AllByRecursion (IsHad plan) (rows_of t k es rs)
rows_have plan t k [] rs within h none = tt
rows_have plan t k (e ∷ es) [] within h none = tt
rows_have plan t k (e ∷ es) (r ∷ rs) within h none =
    all_append (IsHad plan) (row_of t k e ++ row_of t k r) (rows_of t (k + 1) es rs)
    (all_append (IsHad plan) (row_of t k e) (row_of t k r) (row_has plan t k e (h k 0 (omega arith))) (row_has plan t k r (frameless_has plan k r (omega (arith, within)) none.0)))
    (rows_have plan t (k + 1) es rs (omega (arith, within)) (λ i j at. h i (suc j) (omega (arith, at))) none.1)

cuts_have : (plan : Plan) (t k : ℕ) (ss : List Sender) → ((i j : ℕ) → i ≡ k + j → HasIt plan i (get_or (map cut_of ss) j None)) → AllByRecursion (IsHad plan) (cut_rows t k ss)
cuts_have plan t k [] h = tt
cuts_have plan t k (s ∷ ss) h =
    all_append (IsHad plan) (row_of t k (cut_of s)) (cut_rows t (k + 1) ss) (row_has plan t k (cut_of s) (h k 0 (omega arith)))
    (cuts_have plan t (k + 1) ss (λ i j at. h i (suc j) (omega (arith, at))))

event_has : (plan : Plan) (t k : ℕ) → HasIt plan k (get_or (events_in plan t) k None)
event_has plan t k = elim (cases_lt k (length plan.layout.stations)) [
  | inl lt ↦ station_has_if plan k (get_or (events_in plan t) k None) lt (event_in_queue plan k t lt)
  | inr past ↦ subst (HasIt plan k) (sym (no_event_past plan k t past)) tt
]

cut_has : (plan : Plan) (t k : ℕ) → HasIt plan k (get_or (cuts_in plan t) k None)
cut_has plan t k = elim (cases_lt k (length plan.layout.stations)) [
  | inl lt ↦ station_has_if plan k (get_or (cuts_in plan t) k None) lt (cut_in_queue plan k t lt)
  | inr past ↦ subst (HasIt plan k) (sym (no_cut_past plan k t past)) tt
]

-- ---- rows of repeaters

-- repeaters of a layout: each has no more guards than ports
abbrev HavePorts : List RepeaterDevice → List RepeaterLine → Type 0
HavePorts [] ls = Unit {0}
HavePorts (r ∷ rs) [] = ⊥
HavePorts (r ∷ rs) (l ∷ ls) = (length r.guards ≤ length l.ports) × HavePorts rs ls

new_have_ports : (ls : List RepeaterLine) → HavePorts (map new_repeater ls) ls
new_have_ports [] = tt
new_have_ports (l ∷ ls) = (omega (arith, length-replicate (length l.ports) new_guard), new_have_ports ls)

guards_stay : (gs : List Guard) (hs es : List Sym) → length (guards_after gs hs es) ≤ length gs
guards_stay [] hs es = omega arith
guards_stay (g ∷ gs) [] es = omega arith
guards_stay (g ∷ gs) (h ∷ hs) [] = omega arith
guards_stay (g ∷ gs) (h ∷ hs) (e ∷ es) = omega (arith, guards_stay gs hs es)

have_ports_after : (hears : List Sym) (rs : List RepeaterDevice) (ls : List RepeaterLine) → HavePorts rs ls → HavePorts (each_repeater after hears rs) ls
have_ports_after hears [] ls h = tt
have_ports_after hears (r ∷ rs) [] h = absurd h
have_ports_after hears (r ∷ rs) (l ∷ ls) h =
    (omega (arith, h.0, guards_stay r.guards (take (length r.guards) hears) (emitted_by r)), have_ports_after (drop (length r.guards) hears) rs ls h.1)

have_ports : (plan : Plan) (t : ℕ) → HavePorts (net plan t).repeaters plan.layout.repeaters
have_ports plan zero = new_have_ports plan.layout.repeaters
have_ports plan (suc t) = have_ports_after (ports_hear (net plan t)) (net plan t).repeaters plan.layout.repeaters (have_ports plan t)

repeater_has : (plan : Plan) (k : ℕ) (b : Body) → length plan.layout.stations ≤ k → is_counted (ports_had (slice_get plan.layout.repeaters (k - length plan.layout.stations))) (port_named b) ≡ true → is_had plan k b ≡ true
repeater_has plan k b le h = rw (le-ltb k (length plan.layout.stations) le) h

bodies_have : (plan : Plan) (t k ports : ℕ) (bs : List Body) → length plan.layout.stations ≤ k → ports_had (slice_get plan.layout.repeaters (k - length plan.layout.stations)) ≡ ports → AllByRecursion (IsAtRepeater ports) bs
    → AllByRecursion (IsHad plan) (rows_of_bodies t k bs)
bodies_have plan t k ports [] le has h = tt
bodies_have plan t k ports (b ∷ bs) le has h =
    (repeater_has plan k b le (subst (λ n. is_counted n (port_named b) ≡ true) (sym has) h.0.counted), bodies_have plan t k ports bs le has h.1)

repeaters_have : (plan : Plan) (t k : ℕ) (hears : List Sym) (rs : List RepeaterDevice) (ls : List RepeaterLine) → length plan.layout.stations ≤ k
    → ((i j : ℕ) → i ≡ k + j → slice_get plan.layout.repeaters (i - length plan.layout.stations) ≡ slice_get ls j) → HavePorts rs ls
    → AllByRecursion (IsHad plan) (repeater_rows t k (each_repeater repeater_bodies hears rs))
repeaters_have plan t k hears [] ls le at h = tt
repeaters_have plan t k hears (r ∷ rs) [] le at h = absurd h
repeaters_have plan t k hears (r ∷ rs) (l ∷ ls) le at h =
    let here = take (length r.guards) hears in
    let rest = drop (length r.guards) hears in
    all_append (IsHad plan) (rows_of_bodies t k (repeater_bodies here r)) (repeater_rows t (k + 1) (each_repeater repeater_bodies rest rs))
    (bodies_have plan t k (length l.ports) (repeater_bodies here r) le (ap ports_had (at k 0 (omega arith))) (repeater_there (length l.ports) here r h.0))
    (repeaters_have plan t (k + 1) rest rs ls (omega (arith, le)) (λ i j is. at i (suc j) (omega (arith, is))) h.1)

-- ---- the whole run

rows_had_in : (plan : Plan) (t : ℕ) → AllByRecursion (IsHad plan) (rows_in (net plan t))
rows_had_in plan t =
    let n = net plan t in
    let es = events_in plan t in
    let rs = map (λ (r : Reception). r.event) (receptions_in n) in
    let stations : length n.senders ≡ length plan.layout.stations = (shape_of plan t).senders in
    let many : length es ≡ length plan.layout.stations = length-map (sendings_in n) (λ (o : SendOutcome). o.event) ∙ many_sendings plan t in
    all_append (IsHad plan) (rows_of n.t 0 es rs) (repeater_rows n.t (length n.senders) (each_repeater repeater_bodies (ports_hear n) n.repeaters))
    (rows_have plan n.t 0 es rs (omega (arith, many)) (λ i j at. subst (λ m. HasIt plan i (get_or es m None)) (same i j at) (event_has plan t i)) (receptions_frameless (stations_hear n) (stations_emit n) n.receivers))
    (repeaters_have plan n.t (length n.senders) (ports_hear n) n.repeaters plan.layout.repeaters (omega (arith, stations))
    (λ i j at. (let e : i - length plan.layout.stations ≡ j = omega (arith, at, stations) in ap (slice_get plan.layout.repeaters) e)) (have_ports plan t))
  where
    same : (i j : ℕ) → i ≡ 0 + j → i ≡ j
    same i j at = omega arith

rows_had_before : (plan : Plan) (t : ℕ) → AllByRecursion (IsHad plan) (net plan t).rows
rows_had_before plan zero = tt
rows_had_before plan (suc t) = all_append (IsHad plan) (net plan t).rows (rows_in (net plan t)) (rows_had_before plan t) (rows_had_in plan t)

-- the plan has what the rows of its run name
pub rows_had : (plan : Plan) → AllByRecursion (IsHad plan) (rows plan)
unfolding rows
rows_had plan =
    let h = half_bits plan in
    all_append (IsHad plan) (net plan h).rows (cut_rows h 0 (net plan h).senders) (rows_had_before plan h)
    (cuts_have plan h 0 (net plan h).senders (λ i j at. subst (λ m. HasIt plan i (get_or (cuts_in plan h) m None)) (same i j at) (cut_has plan h i)))
  where
    same : (i j : ℕ) → i ≡ 0 + j → i ≡ j
    same i j at = omega arith
