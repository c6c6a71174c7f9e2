-- The rows and captures of a network before each half bit.
use Rattle.std.proofs.Common.{◌≡◌, ℕ, zero, suc, ◌+◌, ◌<◌, ◌≤◌, ◌⊎◌, inl, inr, Bool, eqb, Option, Some, None, All, List, [], ◌∷◌, ◌++◌, map, length, get_or, refl, sym, subst, ap, ap₂, ◌∙◌, arith}
use Rattle.std.specs.Prelude.{IfSome}
use Rattle.std.specs.List.{flat_map, range_with_len, AllByRecursion}
use Rattle.std.proofs.lemmas.List.{append-nil, get_or-map, get_or_default, length-map, map-append}
use Rattle.std.proofs.lemmas.List.Elements.{All-append, All-from_recursion, All-nil}
use Rattle.mac_parameters.specs.Parameters.{most_octets, most_half_bits}
use Rattle.manchester_line.specs.declared.Sym.{Sym}
use Rattle.manchester_line.specs.Line.{is_signal}
use Rattle.collision_log.specs.declared.row.Body.{Body}
use Rattle.collision_log.specs.declared.row.Row.{Row}
use Rattle.layout.specs.declared.lines.StationLine.{StationLine}
use Rattle.load_plan.specs.declared.plan.Plan.{Plan}
use Rattle.load_plan.proofs.PlansAreSound.{sound_of_plan}
use Rattle.mac_transmit.specs.Resuming.{state_of}
use Rattle.mac_transmit.specs.declared.state.SenderState.{SenderState}
use Rattle.mac_transmit.specs.Sender.{Sender, SendOutcome, sender_step}
use Rattle.mac_receive.specs.Receiver.{Receiving, Reception, new_receiving, quiet, receiver_step}
use Rattle.network.specs.Attempts.{sender_at}
use Rattle.network.specs.Captures.{captured, taken_by}
use Rattle.network.specs.Net.{net, each_repeater, new_receiver, ports_hear, receptions, receptions_in, rows_in, sendings_in, stations_emit, stations_hear}
use Rattle.network.specs.Rows.{repeater_bodies, repeater_rows, rows_of}
use Rattle.network.specs.Times.{heard}
use Rattle.network.specs.declared.outputs.Taken.{Taken}
use Rattle.network.proofs.StationAttempts.{many_sendings, no_sender, no_sending, sends_at, shape_of, station_runs}
use Rattle.quiet_state.specs.Laws.{StatesHaveTheirRows}
use Rattle.quiet_state.specs.PlanStates.{HappensToRepeater, HappensToStation, IsRepeaterRow, IsRowOf, IsStationRow, ended_frames, own_rows, received_sizes, taken_size}
use Rattle.quiet_state.proofs.BodiesOfRepeaters.{HappenAt, repeaters_happen}
use Rattle.quiet_state.proofs.EndedFrames.{step_ends, step_receives}
use Rattle.quiet_state.proofs.OwnRows.{ended_row, has_repeaters, has_rows, received_row, recursion_append, told_more}
use Rattle.quiet_state.proofs.QuietNets.{time_is}
use Rattle.quiet_state.proofs.ReceiverRanges.{HoldsOctets, IsGiven, IsReception, ended_by, received_by, reception_sound}
use Rattle.quiet_state.proofs.ResumableStates.{many_captures, many_receptions, queue_of}
use Rattle.quiet_state.proofs.ResumedStations.{hear_tuning}
use Rattle.quiet_state.proofs.RowsInOrder.{rows_before, rows_in_order}
use Rattle.quiet_state.proofs.SenderRanges.{event_happens, sender_in_range}

abbrev most_of : Plan → ℕ
most_of plan = most_octets (eqb plan.layout.format 2)

-- receivers before half bit t
record IsHearing (most t : ℕ) (r : Receiving) : Type 0 where
  most_is : r.most ≡ most
  halves : length r.halves ≤ t

record IsHeard (most t : ℕ) (x : Reception) : Type 0 where
  hears : IsHearing most (t + 1) x.state
  given : IsGiven most t x.event x.octets

one_heard : (most t : ℕ) (r : Receiving) (h : Sym) (b : Bool) → t ≤ most_half_bits → IsHearing most t r → IsHeard most t (receiver_step r h b)
one_heard most t r h b late is =
    let x : IsReception t r (receiver_step r h b) = reception_sound t r h b late is.halves in
    record {
      hears = record { most_is = ap (λ o. o.most) (hear_tuning r h b) ∙ is.most_is; halves = x.halves };
      given = subst (λ m. IsGiven m t (receiver_step r h b).event (receiver_step r h b).octets) is.most_is x.given;
    }

all_heard : (most t : ℕ) (hs es : List Sym) (rs : List Receiving) → t ≤ most_half_bits → AllByRecursion (IsHearing most t) rs → AllByRecursion (IsHeard most t) (receptions hs es rs)
all_heard most t [] es rs late a = tt
all_heard most t (h ∷ hs) [] rs late a = tt
all_heard most t (h ∷ hs) (e ∷ es) [] late a = tt
all_heard most t (h ∷ hs) (e ∷ es) (r ∷ rs) late a = (one_heard most t r h (is_signal e) late a.0, all_heard most t hs es rs late a.1)

all_hearing : (most t : ℕ) (xs : List Reception) → AllByRecursion (IsHeard most t) xs → AllByRecursion (IsHearing most (t + 1)) (map (λ x. x.state) xs)
all_hearing most t [] a = tt
all_hearing most t (x ∷ xs) a = (a.0.hears, all_hearing most t xs a.1)

new_hearing : (most : ℕ) (ss : List StationLine) → AllByRecursion (IsHearing most 0) (map (new_receiver most) ss)
new_hearing most [] = tt
new_hearing most (s ∷ ss) = (record { most_is = refl; halves = omega arith }, new_hearing most ss)

heard_in_net : (plan : Plan) (t : ℕ) → t ≤ most_half_bits → AllByRecursion (IsHearing (most_of plan) t) (net plan t).receivers → AllByRecursion (IsHeard (most_of plan) t) (receptions_in (net plan t))
heard_in_net plan t late a = all_heard (most_of plan) t (stations_hear (net plan t)) (stations_emit (net plan t)) (net plan t).receivers late a

hearing : (plan : Plan) (t : ℕ) → t ≤ most_half_bits + 1 → AllByRecursion (IsHearing (most_of plan) t) (net plan t).receivers
hearing plan zero late = new_hearing (most_of plan) plan.layout.stations
hearing plan (suc t) late =
    let next : t + 1 ≡ suc t = omega arith in
    subst (λ u. AllByRecursion (IsHearing (most_of plan) u) (net plan (suc t)).receivers) next
    (all_hearing (most_of plan) t (receptions_in (net plan t)) (heard_in_net plan t (omega arith) (hearing plan t (omega arith))))

-- the reception of station k in half bit t
abbrev silence : Reception
silence = quiet (new_receiving 0 0)

abbrev reception_at : Plan → ℕ → ℕ → Reception
reception_at plan k t = get_or (receptions_in (net plan t)) k silence

given_at : (plan : Plan) (k t : ℕ) → k < length plan.layout.stations → t ≤ most_half_bits → IsGiven (most_of plan) t (reception_at plan k t).event (reception_at plan k t).octets
given_at plan k t l late =
    let many = many_receptions plan t in
    (All-from_recursion (IsHeard (most_of plan) t) (receptions_in (net plan t)) (heard_in_net plan t late (hearing plan t (omega arith))) k silence (omega (arith, l, many))).given

-- what happens to stations in half bit t
abbrev sent_events : Plan → ℕ → List (Option Body)
sent_events plan t = map (λ o. o.event) (sendings_in (net plan t))

abbrev heard_events : Plan → ℕ → List (Option Body)
heard_events plan t = map (λ r. r.event) (receptions_in (net plan t))

abbrev heard_octets : Plan → ℕ → List (List ℕ)
heard_octets plan t = map (λ r. r.octets) (receptions_in (net plan t))

abbrev all_bodies : Plan → ℕ → List (List Body)
all_bodies plan t = each_repeater repeater_bodies (ports_hear (net plan t)) (net plan t).repeaters

many_sent : (plan : Plan) (t : ℕ) → length (sent_events plan t) ≡ length plan.layout.stations
many_sent plan t = length-map (sendings_in (net plan t)) (λ (o : SendOutcome). o.event) ∙ many_sendings plan t

many_heard : (plan : Plan) (t : ℕ) → length (heard_events plan t) ≡ length plan.layout.stations
many_heard plan t = length-map (receptions_in (net plan t)) (λ (r : Reception). r.event) ∙ many_receptions plan t

many_octets : (plan : Plan) (t : ℕ) → length (heard_octets plan t) ≡ length plan.layout.stations
many_octets plan t = length-map (receptions_in (net plan t)) (λ (r : Reception). r.octets) ∙ many_receptions plan t

sent_event : (plan : Plan) (k t : ℕ) → k < length plan.layout.stations → get_or (sent_events plan t) k None ≡ (sender_step (sender_at plan k t) (heard plan k t)).event
sent_event plan k t l =
    let many = many_sendings plan t in
    get_or-map (λ (o : SendOutcome). o.event) (sendings_in (net plan t)) k no_sending None (omega (arith, l, many))
    ∙ ap (λ (o : SendOutcome). o.event) (sends_at plan k t no_sending l)

heard_event : (plan : Plan) (k t : ℕ) → k < length plan.layout.stations → get_or (heard_events plan t) k None ≡ (reception_at plan k t).event
heard_event plan k t l =
    let many = many_receptions plan t in get_or-map (λ (r : Reception). r.event) (receptions_in (net plan t)) k silence None (omega (arith, l, many))

heard_octet : (plan : Plan) (k t : ℕ) → k < length plan.layout.stations → get_or (heard_octets plan t) k [] ≡ (reception_at plan k t).octets
heard_octet plan k t l =
    let many = many_receptions plan t in get_or-map (λ (r : Reception). r.octets) (receptions_in (net plan t)) k silence [] (omega (arith, l, many))

rows_now : (plan : Plan) (t : ℕ) → rows_in (net plan t) ≡ rows_of t 0 (sent_events plan t) (heard_events plan t) ++ repeater_rows t (length plan.layout.stations) (all_bodies plan t)
rows_now plan t =
    ap (λ u. rows_of u 0 (sent_events plan t) (heard_events plan t) ++ repeater_rows u (length (net plan t).senders) (all_bodies plan t)) (time_is plan t)
    ∙ ap (λ m. rows_of t 0 (sent_events plan t) (heard_events plan t) ++ repeater_rows t m (all_bodies plan t)) (shape_of plan t).senders

-- captures
captured_at : (t k : ℕ) (es : List (Option Body)) (os : List (List ℕ)) (cs : List (List Taken)) → k < length es → k < length os → k < length cs → get_or (captured t es os cs) k [] ≡ get_or cs k [] ++ taken_by t (get_or es k None) (get_or os k [])
captured_at t k [] os cs l m n = absurd (omega arith)
captured_at t k (e ∷ es) [] cs l m n = absurd (omega arith)
captured_at t k (e ∷ es) (o ∷ os) [] l m n = absurd (omega arith)
captured_at t zero (e ∷ es) (o ∷ os) (c ∷ cs) l m n = refl
captured_at t (suc k) (e ∷ es) (o ∷ os) (c ∷ cs) l m n = captured_at t k es os cs (omega arith) (omega arith) (omega arith)

captures_now : (plan : Plan) (k t : ℕ) → k < length plan.layout.stations →
    get_or (net plan (suc t)).captures k [] ≡ get_or (net plan t).captures k [] ++ taken_by t (reception_at plan k t).event (reception_at plan k t).octets
captures_now plan k t l =
    let n = net plan t in
    let es = many_heard plan t in
    let os = many_octets plan t in
    let cs = many_captures plan t in
    ap (λ u. get_or (captured u (heard_events plan t) (heard_octets plan t) n.captures) k []) (time_is plan t)
    ∙ captured_at t k (heard_events plan t) (heard_octets plan t) n.captures (omega (arith, l, es)) (omega (arith, l, os)) (omega (arith, l, cs))
    ∙ ap₂ (λ e o. get_or n.captures k [] ++ taken_by t e o) (heard_event plan k t l) (heard_octet plan k t l)

-- what the rows and captures of station k tell
record TellsOf (plan : Plan) (k t : ℕ) : Type 0 where
  ended : flat_map (λ row. ended_frames row.body) (own_rows k (net plan t).rows) ≡ range_with_len 1 (sender_at plan k t).place
  received : flat_map (λ row. received_sizes row.t row.body) (own_rows k (net plan t).rows) ≡ map taken_size (get_or (net plan t).captures k [])
  octets : All HoldsOctets (get_or (net plan t).captures k [])

no_captures : (ss : List StationLine) (k : ℕ) → get_or (map (λ s. (let none : List Taken = [] in none)) ss) k [] ≡ []
no_captures [] k = refl
no_captures (s ∷ ss) zero = refl
no_captures (s ∷ ss) (suc k) = no_captures ss k

sender_next : (plan : Plan) (k t : ℕ) → k < length plan.layout.stations → sender_at plan k (suc t) ≡ (sender_step (sender_at plan k t) (heard plan k t)).state
sender_next plan k t l = station_runs plan k (suc t) l ∙ ap (λ s. (sender_step s (heard plan k t)).state) (sym (station_runs plan k t l))

tells_at_first : (plan : Plan) (k : ℕ) → k < length plan.layout.stations → TellsOf plan k 0
tells_at_first plan k l =
    let none : get_or (net plan 0).captures k [] ≡ [] = no_captures plan.layout.stations k in
    record {
      ended = ap (λ (s : Sender). range_with_len 1 s.place) (sym (station_runs plan k 0 l));
      received = ap (map taken_size) (sym none);
      octets = subst (All HoldsOctets) (sym none) (All-nil HoldsOctets);
    }

tells_next : (plan : Plan) (k t : ℕ) → k < length plan.layout.stations → t ≤ most_half_bits → TellsOf plan k t → TellsOf plan k (suc t)
tells_next plan k t l late h =
    let n = net plan t in
    let s = sender_at plan k t in
    let x = reception_at plan k t in
    let e = (sender_step s (heard plan k t)).event in
    let g = given_at plan k t l late in
    let es = many_sent plan t in
    let rs = many_heard plan t in
    let c = get_or n.captures k [] in
    let now = rows_of t 0 (sent_events plan t) (heard_events plan t) ++ repeater_rows t (length plan.layout.stations) (all_bodies plan t) in
    let ends : flat_map (λ (row : Row). ended_frames row.body) (own_rows k (n.rows ++ now)) ≡ range_with_len 1 s.place ++ (ended_by e ++ ended_by x.event) =
    told_more (λ (row : Row). ended_frames row.body) (λ u b. ended_by b) ended_row t k (length plan.layout.stations) n.rows (sent_events plan t) (heard_events plan t) (all_bodies plan t) l (omega (arith, l, es)) (omega (arith, l, rs))
    ∙ ap₂ (λ (xs ys : List ℕ). xs ++ ys) h.ended (ap₂ (λ a b. ended_by a ++ ended_by b) (sent_event plan k t l) (heard_event plan k t l)) in
    let receives : flat_map (λ (row : Row). received_sizes row.t row.body) (own_rows k (n.rows ++ now)) ≡ map taken_size c ++ (received_by t e ++ received_by t x.event) =
    told_more (λ (row : Row). received_sizes row.t row.body) received_by received_row t k (length plan.layout.stations) n.rows (sent_events plan t) (heard_events plan t) (all_bodies plan t) l (omega (arith, l, es)) (omega (arith, l, rs))
    ∙ ap₂ (λ (xs ys : List (ℕ × ℕ)). xs ++ ys) h.received (ap₂ (λ a b. received_by t a ++ received_by t b) (sent_event plan k t l) (heard_event plan k t l)) in
    record {
      ended =
          ap (λ rows. flat_map (λ (row : Row). ended_frames row.body) (own_rows k (n.rows ++ rows))) (rows_now plan t)
          ∙ ends
          ∙ ap (λ xs. range_with_len 1 s.place ++ (ended_by e ++ xs)) g.ends
          ∙ ap (λ xs. range_with_len 1 s.place ++ xs) (append-nil (ended_by e))
          ∙ sym (step_ends s (heard plan k t))
          ∙ ap (λ (y : Sender). range_with_len 1 y.place) (sym (sender_next plan k t l));
      received =
          ap (λ rows. flat_map (λ (row : Row). received_sizes row.t row.body) (own_rows k (n.rows ++ rows))) (rows_now plan t)
          ∙ receives
          ∙ ap₂ (λ (xs ys : List (ℕ × ℕ)). map taken_size c ++ (xs ++ ys)) (step_receives t s (heard plan k t)) g.sizes
          ∙ sym (map-append taken_size c (taken_by t x.event x.octets))
          ∙ ap (map taken_size) (sym (captures_now plan k t l));
      octets = subst (All HoldsOctets) (sym (captures_now plan k t l)) (All-append HoldsOctets c (taken_by t x.event x.octets) h.octets g.captured);
    }

tells : (plan : Plan) (k t : ℕ) → k < length plan.layout.stations → t ≤ most_half_bits + 1 → TellsOf plan k t
tells plan k zero l late = tells_at_first plan k l
tells plan k (suc t) l late = tells_next plan k t l (omega arith) (tells plan k t l (omega arith))

-- each row is of one of the plan's devices
abbrev IsDeviceRow : Plan → Row → Type 0
IsDeviceRow plan row = IsStationRow plan row ⊎ IsRepeaterRow plan row

station_body : (plan : Plan) (t k : ℕ) (e : Option Body) → k < length plan.layout.stations → IfSome e (HappensToStation (length (get_or plan.queues k [])) (most_of plan) t) → IfSome e (λ body. IsDeviceRow plan (record { t = t; device = k; body = body }))
station_body plan t k None l h = tt
station_body plan t k (Some body) l h = inl (record { device = l; happens = h })

sent_row : (plan : Plan) (t i k : ℕ) → t ≤ most_half_bits → i < length (sent_events plan t) → k ≡ 0 + i → IfSome (get_or (sent_events plan t) i None) (λ body. IsDeviceRow plan (record { t = t; device = k; body = body }))
sent_row plan t i k late l e =
    let many = many_sent plan t in
    let same : k ≡ i = omega arith in
    let low : k < length plan.layout.stations = omega (arith, l, many, same) in
    subst (λ j. IfSome (get_or (sent_events plan t) j None) (λ body. IsDeviceRow plan (record { t = t; device = k; body = body }))) same
    (station_body plan t k (get_or (sent_events plan t) k None) low
    (subst (λ x. IfSome x (HappensToStation (length (get_or plan.queues k [])) (most_of plan) t)) (sym (sent_event plan k t low))
    (subst (λ q. IfSome (sender_step (sender_at plan k t) (heard plan k t)).event (HappensToStation (length q) (most_of plan) t)) (queue_of plan k t low)
    (event_happens t t (most_of plan) (sender_at plan k t) (heard plan k t) late (sender_in_range plan k t low (omega arith))))))

heard_row : (plan : Plan) (t i k : ℕ) → t ≤ most_half_bits → i < length (heard_events plan t) → k ≡ 0 + i → IfSome (get_or (heard_events plan t) i None) (λ body. IsDeviceRow plan (record { t = t; device = k; body = body }))
heard_row plan t i k late l e =
    let many = many_heard plan t in
    let same : k ≡ i = omega arith in
    let low : k < length plan.layout.stations = omega (arith, l, many, same) in
    subst (λ j. IfSome (get_or (heard_events plan t) j None) (λ body. IsDeviceRow plan (record { t = t; device = k; body = body }))) same
    (station_body plan t k (get_or (heard_events plan t) k None) low
    (subst (λ x. IfSome x (HappensToStation (length (get_or plan.queues k [])) (most_of plan) t)) (sym (heard_event plan k t low))
    ((given_at plan k t low late).happens (length (get_or plan.queues k [])) t)))

repeater_row : (plan : Plan) (t i k : ℕ) (bodies : List Body) → k ≡ length plan.layout.stations + i → HappenAt plan.layout.repeaters i bodies → AllByRecursion (λ body. IsDeviceRow plan (record { t = t; device = k; body = body })) bodies
repeater_row plan t i k bodies e h = each bodies h.happen
  where
    each : (bs : List Body) → AllByRecursion (HappensToRepeater (length h.line.ports)) bs → AllByRecursion (λ body. IsDeviceRow plan (record { t = t; device = k; body = body })) bs
    each [] a = tt
    each (b ∷ bs) a = (inr (record { repeater = i; line = h.line; is_line = h.is_line; device = e; happens = a.0 }), each bs a.1)

rows_of_devices : (plan : Plan) (t : ℕ) → t ≤ most_half_bits → AllByRecursion (IsDeviceRow plan) (rows_in (net plan t))
rows_of_devices plan t late =
    let s = length plan.layout.stations in
    subst (AllByRecursion (IsDeviceRow plan)) (sym (rows_now plan t))
    (recursion_append (IsDeviceRow plan) (rows_of t 0 (sent_events plan t) (heard_events plan t)) (repeater_rows t s (all_bodies plan t))
    (has_rows (IsDeviceRow plan) t 0 (sent_events plan t) (heard_events plan t) (λ i m l e. sent_row plan t i m late l e) (λ i m l e. heard_row plan t i m late l e))
    (has_repeaters (IsDeviceRow plan) t s (all_bodies plan t) (λ i m l e.
    repeater_row plan t i m (get_or (all_bodies plan t) i []) e
    (repeaters_happen plan.layout.repeaters (net plan t).repeaters (net plan t).decided (ports_hear (net plan t)) i (shape_of plan t).lines l))))

devices_of_rows : (plan : Plan) (t : ℕ) → t ≤ most_half_bits + 1 → AllByRecursion (IsDeviceRow plan) (net plan t).rows
devices_of_rows plan zero late = tt
devices_of_rows plan (suc t) late =
    recursion_append (IsDeviceRow plan) (net plan t).rows (rows_in (net plan t)) (devices_of_rows plan t (omega arith)) (rows_of_devices plan t (omega arith))

-- the state of the network
state_place : (ss : List Sender) (k : ℕ) (d : SenderState) → k < length ss → (get_or (map state_of ss) k d).place ≡ (get_or ss k no_sender).place
state_place [] k d l = absurd (omega arith)
state_place (s ∷ ss) zero d l = refl
state_place (s ∷ ss) (suc k) d l = state_place ss k d (omega arith)

pub states_have_rows : StatesHaveTheirRows
states_have_rows plan t late =
    let n = net plan t in
    let bits = (sound_of_plan plan).bits_most in
    let soon : t ≤ most_half_bits + 1 = omega (arith, late, bits) in
    let now = time_is plan t in
    let all : All (IsDeviceRow plan) n.rows = All-from_recursion (IsDeviceRow plan) n.rows (devices_of_rows plan t soon) in
    let many = (shape_of plan t).senders in
    let captures = many_captures plan t in
    record {
      rows = subst (λ u. All (IsRowOf plan u) n.rows) (sym now) (λ i d l. (rows_before plan t i d l, all i d l));
      order = rows_in_order plan t;
      ended = λ k d l. (tells plan k t l soon).ended ∙ ap (range_with_len 1) (sym (state_place n.senders k d (omega (arith, l, many))));
      received = λ k l. (tells plan k t l soon).received;
      octets = λ k d l.
          let low : k < length plan.layout.stations = omega (arith, l, captures) in
          subst (All HoldsOctets) (get_or_default n.captures k [] d l) (tells plan k t low soon).octets;
    }
