-- Which rows end a frame: those that it was sent, and that it was given up.
use Rattle.std.proofs.Common.{◌≡◌, ℕ, zero, suc, ◌+◌, ◌<◌, ◌≤◌, Bool, true, false, cond, eqb, ltb, Option, Some, None, List, [], ◌∷◌, ◌++◌, length, get_or, take, drop, map, refl, ap, ◌∙◌, arith}
use Rattle.std.proofs.lemmas.Bool.{cond_both, eq-eqb, ne_eqb}
use Rattle.mac_parameters.specs.Parameters.{shortest_line_text}
use Rattle.manchester_line.specs.declared.Sym.{Sym}
use Rattle.manchester_line.specs.declared.Sym.TheVariants as sym
use Rattle.frame_layout.specs.Frame.{verdict_of}
use Rattle.frame_layout.specs.declared.verdict.Verdict.{Verdict}
use Rattle.frame_layout.specs.declared.verdict.Verdict.TheVariants.{Good, Fragment, TooLong, FcsError, AlignError}
use Rattle.collision_log.specs.Counters.{with_row, with_dropped}
use Rattle.collision_log.specs.declared.counters.Counters.{Counters}
use Rattle.collision_log.specs.declared.row.Body.{Body}
use Rattle.collision_log.specs.declared.row.Body.TheVariants.{Sent, Collided, GivenUp, Cut, Received, Dropped, Clash, Closed, Opened, Halted}
use Rattle.collision_log.specs.declared.row.Row.{Row}
use Rattle.collision_log.specs.declared.row.Why.{Why}
use Rattle.collision_log.specs.declared.row.Why.TheVariants as why
use Rattle.mac_transmit.specs.Sender.{Sender, cut_from, cut_of}
use Rattle.manchester_line.specs.Line.{is_signal}
use Rattle.mac_transmit.specs.declared.phase.Phase.{Phase}
use Rattle.mac_transmit.specs.declared.phase.Phase.TheVariants.{Rest, Waiting, Sending, Backoff}
use Rattle.manchester_line.specs.Reading.{reading, octets_of_bits, spare_of_bits}
use Rattle.mac_receive.specs.Receiver.{Receiving, Reception, reception_ended, extended, judged_row, left_halves, quiet, reading_row, receiver_step}
use Rattle.port_partition.specs.declared.guard.GuardEvent.{GuardEvent}
use Rattle.port_partition.specs.declared.guard.GuardEvent.TheVariants as event
use Rattle.repeater_core.specs.Step.{RepeaterDevice, chosen, clash_begins, emitted_by, guard_events}
use Rattle.network.specs.Net.{each_repeater, receptions}
use Rattle.network.specs.Rows.{repeater_rows, rows_of_bodies, repeater_bodies, port_bodies, guard_bodies, happened, rows_of, row_of}
use Rattle.network.specs.Outputs.{cut_rows}
use Rattle.run_texts.specs.Counts.{counts_after, rows_of_device}

-- whether it ends a frame, as a number
abbrev pub ends_by : Body → ℕ
ends_by (Sent frame start attempt) = 1
ends_by (Collided frame start attempt hit drawn) = 0
ends_by (GivenUp frame start hit) = 1
ends_by (Cut frame start attempt hit) = 0
ends_by (Received octets) = 0
ends_by (Dropped why halves) = 0
ends_by Clash = 0
ends_by (Closed port) = 0
ends_by (Opened port) = 0
ends_by (Halted port) = 0

abbrev pub ended_of : Option Body → ℕ
ended_of None = 0
ended_of (Some body) = ends_by body

-- how many of the rows end a frame of device k
abbrev pub ends : ℕ → List Row → ℕ
ends k [] = 0
ends k (row ∷ rows) = cond (eqb row.device k) (ends_by row.body) 0 + ends k rows

pub ends-append : (k : ℕ) (xs ys : List Row) → ends k (xs ++ ys) ≡ ends k xs + ends k ys
ends-append k [] ys = omega arith
ends-append k (x ∷ xs) ys = omega (arith, ends-append k xs ys)

-- counts with n more frames that ended
abbrev IsEnded : Counters → Counters → ℕ → Type 0
IsEnded c e n = (e.sent + e.given_up ≡ c.sent + c.given_up + n) × (e.queued ≡ c.queued)

dropped_ends : (c : Counters) (why : Why) → IsEnded c (with_dropped c why) 0
dropped_ends c why.Fragment = (omega arith, refl)
dropped_ends c why.TooLong = (omega arith, refl)
dropped_ends c why.FcsError = (omega arith, refl)
dropped_ends c why.AlignError = (omega arith, refl)
dropped_ends c why.Damaged = (omega arith, refl)

row_ends : (c : Counters) (body : Body) → IsEnded c (with_row c body) (ends_by body)
row_ends c (Sent frame start attempt) = (omega arith, refl)
row_ends c (Collided frame start attempt hit drawn) = (omega arith, refl)
row_ends c (GivenUp frame start hit) = (omega arith, refl)
row_ends c (Cut frame start attempt hit) = (omega arith, refl)
row_ends c (Received octets) = (omega arith, refl)
row_ends c (Dropped why halves) = dropped_ends c why
row_ends c Clash = (omega arith, refl)
row_ends c (Closed port) = (omega arith, refl)
row_ends c (Opened port) = (omega arith, refl)
row_ends c (Halted port) = (omega arith, refl)

one_more : (here : Bool) (c : Counters) (row : Row) (rows : List Row) (n : ℕ) → IsEnded c (counts_after c rows) n → IsEnded (with_row c row.body) (counts_after (with_row c row.body) rows) n
    → IsEnded c (counts_after c (cond here (row ∷ rows) rows)) (cond here (ends_by row.body) 0 + n)
one_more true c row rows n old new =
    let first = row_ends c row.body in
    (omega (arith, first.0, new.0), new.1 ∙ first.1)
one_more false c row rows n old new = (omega (arith, old.0), old.1)

pub counts_end : (k : ℕ) (c : Counters) (rows : List Row) → IsEnded c (counts_after c (rows_of_device k rows)) (ends k rows)
counts_end k c [] = (omega arith, refl)
counts_end k c (row ∷ rows) = one_more (eqb row.device k) c row (rows_of_device k rows) (ends k rows) (counts_end k c rows) (counts_end k (with_row c row.body) rows)

here : (k i n : ℕ) → i ≡ k → cond (eqb k i) n 0 + 0 ≡ n
here k i n e = ap (λ b. cond b n 0 + 0) (eq-eqb k i (omega arith)) ∙ omega arith

elsewhere : (k i n : ℕ) → (k ≡ i → ⊥) → cond (eqb k i) n 0 ≡ 0
elsewhere k i n ne = ap (λ b. cond b n 0) (ne_eqb k i ne)

row_here : (t k i : ℕ) (e : Option Body) → i ≡ k → ends i (row_of t k e) ≡ ended_of e
row_here t k i None same = refl
row_here t k i (Some body) same = here k i (ends_by body) same

row_elsewhere : (t k i : ℕ) (e : Option Body) → (k ≡ i → ⊥) → ends i (row_of t k e) ≡ 0
row_elsewhere t k i None ne = refl
row_elsewhere t k i (Some body) ne = omega (arith, elsewhere k i (ends_by body) ne)

calm_row : (t k i : ℕ) (e : Option Body) → ended_of e ≡ 0 → ends i (row_of t k e) ≡ 0
calm_row t k i None calm = refl
calm_row t k i (Some body) calm = cond_both (eqb k i) (ends_by body) 0 (λ n. n + 0 ≡ 0) (λ _. omega arith) (λ _. omega arith)

-- events of which none ends a frame
abbrev pub AreCalm : List (Option Body) → Type 0
AreCalm [] = Unit {0}
AreCalm (e ∷ es) = (ended_of e ≡ 0) × AreCalm es

parts : (t k i : ℕ) (e r : Option Body) (es rs : List (Option Body)) → ends i (rows_of t k (e ∷ es) (r ∷ rs)) ≡ ends i (row_of t k e) + ends i (row_of t k r) + ends i (rows_of t (k + 1) es rs)
parts t k i e r es rs =
    ends-append i (row_of t k e ++ row_of t k r) (rows_of t (k + 1) es rs) ∙ ap (λ n. n + ends i (rows_of t (k + 1) es rs)) (ends-append i (row_of t k e) (row_of t k r))

below : (t k i : ℕ) (es rs : List (Option Body)) → i < k → ends i (rows_of t k es rs) ≡ 0
below t k i [] rs lt = refl
below t k i (e ∷ es) [] lt = refl
below t k i (e ∷ es) (r ∷ rs) lt =
    let no : k ≡ i → ⊥ = λ same. omega arith in
    parts t k i e r es rs ∙ omega (arith, row_elsewhere t k i e no, row_elsewhere t k i r no, below t (k + 1) i es rs (omega arith))

-- of the rows of stations at most the event of the station's own sender ends a frame of it
pub ends_at : (t k i j : ℕ) (es rs : List (Option Body)) → i ≡ k + j → AreCalm rs → ends i (rows_of t k es rs) ≤ ended_of (get_or es j None)
ends_at t k i j [] rs at calm = omega arith
ends_at t k i j (e ∷ es) [] at calm = omega arith
ends_at t k i zero (e ∷ es) (r ∷ rs) at calm =
    rw (parts t k i e r es rs) (omega (arith, row_here t k i e (omega arith), calm_row t k i r calm.0, below t (k + 1) i es rs (omega arith)))
ends_at t k i (suc j) (e ∷ es) (r ∷ rs) at calm =
    rw (parts t k i e r es rs) (omega (arith, row_elsewhere t k i e (λ same. omega arith), calm_row t k i r calm.0, ends_at t (k + 1) i j es rs (omega arith) calm.1))

judged_calm : (v : Verdict) (octets halves : ℕ) → ends_by (judged_row v octets halves) ≡ 0
judged_calm Good octets halves = refl
judged_calm Fragment octets halves = refl
judged_calm TooLong octets halves = refl
judged_calm FcsError octets halves = refl
judged_calm AlignError octets halves = refl

reading_calm : (read : Option (List Bool)) (most halves : ℕ) → ends_by (reading_row read most halves) ≡ 0
reading_calm None most halves = cond_both (ltb halves shortest_line_text) (Dropped why.Fragment halves) (Dropped why.Damaged halves) (λ b. ends_by b ≡ 0) (λ _. refl) (λ _. refl)
reading_calm (Some bits) most halves = judged_calm (verdict_of (octets_of_bits bits) (spare_of_bits bits) most) (length (octets_of_bits bits)) halves

reception_calm : (r : Receiving) (halves : List Sym) → ended_of (reception_ended r halves).event ≡ 0
reception_calm r [] = refl
reception_calm r (s ∷ ss) = reading_calm (reading (left_halves r.lose (s ∷ ss))) r.most (length (s ∷ ss))

idle_calm : (deaf : Bool) (r : Receiving) → ended_of (Reception.event (cond deaf (quiet (record r { deaf = false; halves = [] })) (reception_ended r r.halves))) ≡ 0
idle_calm true r = refl
idle_calm false r = reception_calm r r.halves

loud_calm : (deaf : Bool) (r : Receiving) (s : Sym) → ended_of (Reception.event (cond deaf (quiet r) (extended r s))) ≡ 0
loud_calm true r s = refl
loud_calm false r s = refl

received_calm : (r : Receiving) (heard : Sym) (sending : Bool) → ended_of (receiver_step r heard sending).event ≡ 0
received_calm r sym.Idle true = refl
received_calm r sym.Hi true = refl
received_calm r sym.Lo true = refl
received_calm r sym.Clash true = refl
received_calm r sym.Idle false = idle_calm r.deaf r
received_calm r sym.Hi false = loud_calm r.deaf r sym.Hi
received_calm r sym.Lo false = loud_calm r.deaf r sym.Lo
received_calm r sym.Clash false = loud_calm r.deaf r sym.Clash

-- no event of a receiver ends a frame
pub receptions_calm : (hs es : List Sym) (rs : List Receiving) → AreCalm (map (λ (r : Reception). r.event) (receptions hs es rs))
receptions_calm [] es rs = tt
receptions_calm (h ∷ hs) [] rs = tt
receptions_calm (h ∷ hs) (e ∷ es) [] = tt
receptions_calm (h ∷ hs) (e ∷ es) (r ∷ rs) = (received_calm r h (is_signal e), receptions_calm hs es rs)

-- what happens at a device that ends no frame
abbrev AreQuiet : List Body → Type 0
AreQuiet [] = Unit {0}
AreQuiet (b ∷ bs) = (ends_by b ≡ 0) × AreQuiet bs

quiet-append : (xs ys : List Body) → AreQuiet xs → AreQuiet ys → AreQuiet (xs ++ ys)
quiet-append [] ys hx hy = hy
quiet-append (x ∷ xs) ys hx hy = (hx.0, quiet-append xs ys hx.1 hy)

happened_quiet : (so : Bool) (body : Body) → ends_by body ≡ 0 → AreQuiet (happened so body)
happened_quiet true body e = (e, tt)
happened_quiet false body e = tt

guard_quiet : (port : ℕ) (e : GuardEvent) → AreQuiet (guard_bodies port e)
guard_quiet port event.None = tt
guard_quiet port event.Closed = (refl, tt)
guard_quiet port event.Opened = (refl, tt)

ports_quiet : (port : ℕ) (hs : List Bool) (es : List GuardEvent) → AreQuiet (port_bodies port hs es)
ports_quiet port [] es = tt
ports_quiet port (h ∷ hs) [] = tt
ports_quiet port (h ∷ hs) (e ∷ es) =
    quiet-append (happened h (Halted port)) (guard_bodies port e ++ port_bodies (port + 1) hs es) (happened_quiet h (Halted port) refl)
    (quiet-append (guard_bodies port e) (port_bodies (port + 1) hs es) (guard_quiet port e) (ports_quiet (port + 1) hs es))

bodies_quiet : (heard : List Sym) (r : RepeaterDevice) → AreQuiet (repeater_bodies heard r)
bodies_quiet heard r =
    let halts = map (λ c. c.halted) (chosen heard r) in
    let guards = guard_events r.guards heard (emitted_by r) in
    quiet-append (happened (clash_begins heard r) Clash) (port_bodies 1 halts guards) (happened_quiet (clash_begins heard r) Clash refl) (ports_quiet 1 halts guards)

rows_quiet : (t k i : ℕ) (bs : List Body) → AreQuiet bs → ends i (rows_of_bodies t k bs) ≡ 0
rows_quiet t k i [] h = refl
rows_quiet t k i (b ∷ bs) h = one (eqb k i) (ends_by b) (ends i (rows_of_bodies t k bs)) h.0 (rows_quiet t k i bs h.1)
  where
    one : (same : Bool) (n m : ℕ) → n ≡ 0 → m ≡ 0 → cond same n 0 + m ≡ 0
    one true n m e f = omega arith
    one false n m e f = omega arith

-- no row of a repeater ends a frame
pub repeaters_quiet : (t k i : ℕ) (heard : List Sym) (rs : List RepeaterDevice) → ends i (repeater_rows t k (each_repeater repeater_bodies heard rs)) ≡ 0
repeaters_quiet t k i heard [] = refl
repeaters_quiet t k i heard (r ∷ rs) =
    let here = take (length r.guards) heard in
    let rest = drop (length r.guards) heard in
    ends-append i (rows_of_bodies t k (repeater_bodies here r)) (repeater_rows t (k + 1) (each_repeater repeater_bodies rest rs))
    ∙ omega (arith, rows_quiet t k i (repeater_bodies here r) (bodies_quiet here r), repeaters_quiet t (k + 1) i rest rs)

cut_calm : (s : Sender) (p : Phase) → ended_of (cut_from s p) ≡ 0
cut_calm s Rest = refl
cut_calm s Waiting = refl
cut_calm s (Sending start hit) = refl
cut_calm s (Backoff until) = refl

cut_of_calm : (s : Sender) → ended_of (cut_of s) ≡ 0
unfolding cut_of
cut_of_calm s = cut_calm s s.phase

-- nor does a row of a sending that the end of the run cuts off
pub cuts_calm : (t k i : ℕ) (ss : List Sender) → ends i (cut_rows t k ss) ≡ 0
cuts_calm t k i [] = refl
cuts_calm t k i (s ∷ ss) = ends-append i (row_of t k (cut_of s)) (cut_rows t (k + 1) ss) ∙ omega (arith, calm_row t k i (cut_of s) (cut_of_calm s), cuts_calm t (k + 1) i ss)
