-- An attempt that ends within a run has its row there.
use Rattle.std.proofs.Common.{eqb, ◌≡◌, ℕ, zero, suc, ◌+◌, ◌<◌, ◌≤◌, Bool, cond, inl, inr, Option, Some, None, List, [], ◌∷◌, ◌++◌, map, length, length-take-le, get_or, refl, sym, ap, subst, ◌∙◌, arith}
use Rattle.std.specs.List.{Contains}
use Rattle.std.proofs.lemmas.Bool.{cases_lt}
use Rattle.std.proofs.lemmas.List.{length-map, get_or-map}
use Rattle.std.proofs.lemmas.List.Elements.{Contains-append_left, Contains-append_right}
use Rattle.manchester_line.specs.declared.Sym.{Sym}
use Rattle.collision_log.specs.declared.row.Body.{Body}
use Rattle.collision_log.specs.declared.row.Row.{Row}
use Rattle.load_plan.specs.declared.plan.Plan.{Plan}
use Rattle.mac_transmit.specs.Attempts.{Attempt, Finishes}
use Rattle.mac_transmit.specs.Sender.{Sender, SendOutcome, sender_step, event_from, end_event}
use Rattle.mac_receive.specs.Receiver.{Receiving, Reception}
use Rattle.network.specs.Attempts.{sender_at, IsAttempt}
use Rattle.network.specs.Net.{net, new_receiver, heard_in, stations_hear, stations_emit, ports_hear, sendings_in, receptions, receptions_in, rows_in, each_repeater}
use Rattle.mac_parameters.specs.Parameters.{most_octets}
use Rattle.network.specs.Rows.{repeater_rows, repeater_bodies, rows_of, row_of}
use Rattle.network.specs.Outputs.{rows, half_bits, cut_rows}
use Rattle.network.specs.Signals.{row_of_attempt, AttemptsAreLogged}
use Rattle.network.specs.Times.{heard}
use Rattle.network.proofs.AbsoluteTimes.{heard_sizes}
use Rattle.network.proofs.StationAttempts.{no_sending, shape_of, sends_at, many_sendings}

time_is : (plan : Plan) (t : ℕ) → (net plan t).t ≡ t
time_is plan zero = refl
time_is plan (suc t) = let before = time_is plan t in omega (arith, before)

-- as many receptions as receivers
pub length-receptions : (hs es : List Sym) (rs : List Receiving) → length rs ≤ length hs → length rs ≤ length es → length (receptions hs es rs) ≡ length rs
length-receptions [] es [] lh le = refl
length-receptions (h ∷ hs) [] [] lh le = refl
length-receptions (h ∷ hs) (e ∷ es) [] lh le = refl
length-receptions [] es (r ∷ rs) lh le = absurd (omega arith)
length-receptions (h ∷ hs) [] (r ∷ rs) lh le = absurd (omega arith)
length-receptions (h ∷ hs) (e ∷ es) (r ∷ rs) lh le = ap suc (length-receptions hs es rs (omega arith) (omega arith))

-- one receiver for each station
many_receptions : (plan : Plan) (t : ℕ) → length (net plan t).receivers ≡ length plan.layout.stations → length (receptions_in (net plan t)) ≡ length plan.layout.stations
many_receptions plan t before =
    let n = net plan t in
    let shape = shape_of plan t in
    let many : length n.senders ≡ length plan.layout.stations = shape.senders in
    let fits : length n.senders ≤ length (heard_in n) = (heard_sizes plan t shape).0 in
    let cut : length (stations_hear n) ≡ length n.senders = length-take-le (length n.senders) (heard_in n) fits in
    let size : length (stations_emit n) ≡ length (sendings_in n) = length-map (sendings_in n) (λ (o : SendOutcome). o.emitted) in
    let sent_all : length (sendings_in n) ≡ length plan.layout.stations = many_sendings plan t in
    length-receptions (stations_hear n) (stations_emit n) n.receivers (omega (arith, before)) (omega (arith, before)) ∙ before

many_receivers : (plan : Plan) (t : ℕ) → length (net plan t).receivers ≡ length plan.layout.stations
many_receivers plan zero = length-map plan.layout.stations (new_receiver (most_octets (eqb plan.layout.format 2)))
many_receivers plan (suc t) =
    length-map (receptions_in (net plan t)) (λ (r : Reception). r.state) ∙ many_receptions plan t (many_receivers plan t)

-- the sender's event among the rows of the stations
rows_have : (t k i : ℕ) (es rs : List (Option Body)) (body : Body) (n : ℕ) → i < length es → i < length rs → n ≡ k + i → get_or es i None ≡ Some body →
    Contains (rows_of t k es rs) (record { t = t; device = n; body = body })
rows_have t k i [] rs body n le lr e is = absurd (omega arith)
rows_have t k i (x ∷ es) [] body n le lr e is = absurd (omega arith)
rows_have t k zero (x ∷ es) (r ∷ rs) body n le lr e is =
    let row : Row = record { t = t; device = n; body = body } in
    let same : k ≡ n = omega arith in
    let one : row_of t k x ≡ row ∷ [] = ap (row_of t k) is ∙ ap (λ m. record { t = t; device = m; body = body } ∷ []) same in
    Contains-append_left (row_of t k x ++ row_of t k r) (rows_of t (k + 1) es rs) row
    (Contains-append_left (row_of t k x) (row_of t k r) row (subst (λ all. Contains all row) (sym one) (0, omega arith, refl)))
rows_have t k (suc i) (x ∷ es) (r ∷ rs) body n le lr e is =
    Contains-append_right (row_of t k x ++ row_of t k r) (rows_of t (k + 1) es rs) (record { t = t; device = n; body = body })
    (rows_have t (k + 1) i es rs body n (omega arith) (omega arith) (omega arith) is)

-- the event of a sender that finishes an attempt
event_is : (s : Sender) (a : Attempt) → Finishes s a → event_from s s.phase ≡ Some (end_event s a.start a.hit)
unfolding event_from
event_is s a f = ap (event_from s) f.sending ∙ ap (λ (b : Bool). cond b (Some (end_event s a.start a.hit)) None) f.over

sent_event : (s : Sender) (h : Sym) → (sender_step s h).event ≡ event_from s s.phase
unfolding sender_step
sent_event s h = refl

event_at : (plan : Plan) (k : ℕ) (a : Attempt) → IsAttempt plan k a → get_or (map (λ s. s.event) (sendings_in (net plan a.end))) k None ≡ Some (end_event (sender_at plan k a.end) a.start a.hit)
event_at plan k a is =
    let l : k < length plan.layout.stations = is.station in
    let sent_all : length (sendings_in (net plan a.end)) ≡ length plan.layout.stations = many_sendings plan a.end in
    get_or-map (λ (o : SendOutcome). o.event) (sendings_in (net plan a.end)) k no_sending None (omega arith)
    ∙ ap (λ (o : SendOutcome). o.event) (sends_at plan k a.end no_sending l)
    ∙ sent_event (sender_at plan k a.end) (heard plan k a.end)
    ∙ event_is (sender_at plan k a.end) a is.finishes

-- the row of an attempt is among those of the half bit in which it ends
now_has : (plan : Plan) (k : ℕ) (a : Attempt) → IsAttempt plan k a → Contains (rows_in (net plan a.end)) (row_of_attempt plan k a)
now_has plan k a is =
    let n = net plan a.end in
    let s = sender_at plan k a.end in
    let l : k < length plan.layout.stations = is.station in
    let sent_all : length (sendings_in n) ≡ length plan.layout.stations = many_sendings plan a.end in
    let received_all : length (receptions_in n) ≡ length plan.layout.stations = many_receptions plan a.end (many_receivers plan a.end) in
    let es : List (Option Body) = map (λ (o : SendOutcome). o.event) (sendings_in n) in
    let rs : List (Option Body) = map (λ (r : Reception). r.event) (receptions_in n) in
    let many_es : length es ≡ length (sendings_in n) = length-map (sendings_in n) (λ (o : SendOutcome). o.event) in
    let many_rs : length rs ≡ length (receptions_in n) = length-map (receptions_in n) (λ (r : Reception). r.event) in
    let row = row_of_attempt plan k a in
    let there : Contains (rows_of a.end 0 es rs) row = rows_have a.end 0 k es rs (end_event s a.start a.hit) k (omega arith) (omega arith) (omega arith) (event_at plan k a is) in
    Contains-append_left (rows_of n.t 0 es rs) (repeater_rows n.t (length n.senders) (each_repeater repeater_bodies (ports_hear n) n.repeaters)) row
    (subst (λ u. Contains (rows_of u 0 es rs) row) (sym (time_is plan a.end)) there)

-- a row of a half bit before h is among the rows up to h
rows_keep : (plan : Plan) (h t : ℕ) (row : Row) → t < h → Contains (rows_in (net plan t)) row → Contains (net plan h).rows row
rows_keep plan zero t row l c = absurd (omega arith)
rows_keep plan (suc h) t row l c = elim (cases_lt t h) [
  | inl old ↦ Contains-append_left (net plan h).rows (rows_in (net plan h)) row (rows_keep plan h t row old c)
  | inr now ↦ (let e : t ≡ h = omega arith in Contains-append_right (net plan h).rows (rows_in (net plan h)) row (subst (λ u. Contains (rows_in (net plan u)) row) e c))
]

pub attempts_logged : AttemptsAreLogged
unfolding rows
attempts_logged plan k a is before =
    Contains-append_left (net plan (half_bits plan)).rows (cut_rows (half_bits plan) 0 (net plan (half_bits plan)).senders) (row_of_attempt plan k a)
    (rows_keep plan (half_bits plan) a.end (row_of_attempt plan k a) before (now_has plan k a is))
