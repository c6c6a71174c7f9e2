-- In a network that goes on from a state of a plan no sender ends more frames than its queue has.
use Rattle.std.proofs.Common.{◌≡◌, ℕ, zero, suc, ◌+◌, ◌-◌, ◌<◌, ◌≤◌, Bool, true, false, cond, eqb, leb, ◌&&◌, List, [], ◌∷◌, ◌++◌, length, get_or, refl, sym, ap, ap₂, subst, ◌∙◌, inl, inr, arith}
use Rattle.std.specs.Prelude.{slice_get}
use Rattle.std.specs.List.{AllByRecursion}
use Rattle.std.proofs.lemmas.Bool.{and_parts, cases_Bool, cases_lt, eqb-true, leb-true, ltb-true}
use Rattle.std.proofs.lemmas.List.Sums.{sum_by-cons}
use Rattle.frame_layout.specs.declared.queue.Ready.{Ready}
use Rattle.collision_log.specs.declared.row.Body.{Body}
use Rattle.collision_log.specs.declared.row.Body.TheVariants.{Sent, Collided, GivenUp, Cut, Received, Dropped, Clash, Closed, Opened, Halted}
use Rattle.collision_log.specs.declared.row.Row.{Row}
use Rattle.load_plan.specs.declared.plan.Plan.{Plan}
use Rattle.mac_transmit.specs.Resuming.{IsPhaseIn}
use Rattle.mac_transmit.specs.Sender.{Sender, new_sender}
use Rattle.mac_transmit.specs.declared.phase.Phase.{Phase}
use Rattle.mac_transmit.specs.declared.phase.Phase.TheVariants.{Rest, Waiting, Sending, Backoff}
use Rattle.mac_transmit.specs.declared.state.SenderState.{SenderState}
use Rattle.network.specs.Net.{Net}
use Rattle.network.specs.Outputs.{cut_rows, half_bits}
use Rattle.network.specs.declared.outputs.Taken.{Taken}
use Rattle.quiet_state.specs.Resumed.{end_net, later_net, net_of, resumed_senders, rows_from}
use Rattle.quiet_state.specs.declared.state.NetState.{NetState}
use Rattle.run_checkpoint.specs.Entries.{StateRow, entries_of, is_reception, rows_of_entries}
use Rattle.layout.specs.NameOctets.{is_between}
use Rattle.run_checkpoint.specs.Ranges.{do_all_end, does_end_frame, ended_frame, frames_ended, frames_in, is_body_in, is_row_after, is_row_in, is_there}
use Rattle.run_checkpoint.specs.States.{AreEntriesAfter, AreSendersOf, IsStateOfPlan}
use Rattle.run_texts.proofs.EndedFrames.{cuts_calm, ends, ends-append, ends_by}
use Rattle.run_texts.proofs.FramesLeft.{AllHold, Holds, all_next, stations_left}
use Rattle.run_texts.proofs.PlacesInQueues.{Stands, place_within}
use Rattle.run_texts.specs.Counts.{AreLeft, counts_of, first_counts}

-- so many half bits later
pub later_hold : (queues : List (List Ready)) (n : Net) (k : ℕ) → AllHold queues n → AllHold queues (later_net n k)
later_hold queues n zero h = h
later_hold queues n (suc k) h = all_next queues (later_net n k) (later_hold queues n k h)

-- the frames that rows end, counted in two ways
one_ended : (same : Bool) (body : Body) → cond same (ends_by body) 0 ≡ cond (same && is_there (ended_frame body)) 1 0
one_ended false body = refl
one_ended true (Sent frame start attempt) = refl
one_ended true (Collided frame start attempt hit drawn) = refl
one_ended true (GivenUp frame start hit) = refl
one_ended true (Cut frame start attempt hit) = refl
one_ended true (Received octets) = refl
one_ended true (Dropped why halves) = refl
one_ended true Clash = refl
one_ended true (Closed port) = refl
one_ended true (Opened port) = refl
one_ended true (Halted port) = refl

pub ends_counted : (k : ℕ) (rows : List Row) → ends k rows ≡ frames_ended k rows
ends_counted k [] = refl
ends_counted k (row ∷ rows) =
    ap₂ (λ (a b : ℕ). a + b) (one_ended (eqb row.device k) row.body) (ends_counted k rows) ∙ sym (sum_by-cons (λ (r : Row). cond (does_end_frame k r) 1 0) row rows)

-- the rows of a state are those of its entries
back : (b : Bool) (row : Row) (rows : List Row) (one two : List ℕ) (es fs : List StateRow) → rows_of_entries es ≡ rows → rows_of_entries fs ≡ rows
    → rows_of_entries (cond b (record { row = row; octets = one } ∷ es) (record { row = row; octets = two } ∷ fs)) ≡ row ∷ rows
back true row rows one two es fs e f = ap (λ xs. row ∷ xs) e
back false row rows one two es fs e f = ap (λ xs. row ∷ xs) f

pub rows_back : (rows : List Row) (waiting : List (List Taken)) → rows_of_entries (entries_of rows waiting) ≡ rows
rows_back [] waiting = refl
rows_back (row ∷ rows) waiting = back (is_reception row.body) row rows _ [] _ _ (rows_back rows _) (rows_back rows waiting)

-- a row of a state before half bit t has numbers in range
pub record IsIn (plan : Plan) (t : ℕ) (row : Row) : Type 0 where
  pub time : row.t < t
  pub range : is_row_in plan row ≡ true

pub in_after : (plan : Plan) (t : ℕ) (senders : List SenderState) (before : List Row) (row : Row) → is_row_after plan t senders before row ≡ true → IsIn plan t row
unfolding is_row_after
in_after plan t senders before row after =
    let one = and_parts _ _ after in
    let two = and_parts _ _ one.0 in
    let three = and_parts _ _ two.0 in
    record { time = ltb-true row.t t three.0; range = two.1 }

pub entries_in : (plan : Plan) (t : ℕ) (senders : List SenderState) (before : List Row) (es : List StateRow) → AreEntriesAfter plan t senders before es → AllByRecursion (IsIn plan t) (rows_of_entries es)
entries_in plan t senders before [] h = tt
entries_in plan t senders before (e ∷ es) h = (in_after plan t senders before e.row h.0.after, entries_in plan t senders (before ++ e.row ∷ []) es h.1)

-- a device without a queue ends no frame
no_frame : (X : Type 0) (frame : ℕ) (rest : Bool) → is_between 1 0 frame && rest ≡ true → X
no_frame X frame rest e =
    let between = and_parts (is_between 1 0 frame) rest e in
    let two = and_parts (leb 1 frame) (leb frame 0) between.0 in
    absurd (omega (arith, leb-true 1 frame two.0, leb-true frame 0 two.1))

quiet_body : (most frames ports : ℕ) (body : Body) → frames ≡ 0 → is_body_in most frames ports body ≡ true → ends_by body ≡ 0
quiet_body most frames ports (Sent frame start attempt) none e =
    let here : is_body_in most 0 ports (Sent frame start attempt) ≡ true = subst (λ n. is_body_in most n ports (Sent frame start attempt) ≡ true) none e in no_frame _ frame _ here
quiet_body most frames ports (GivenUp frame start hit) none e =
    let here : is_body_in most 0 ports (GivenUp frame start hit) ≡ true = subst (λ n. is_body_in most n ports (GivenUp frame start hit) ≡ true) none e in no_frame _ frame _ here
quiet_body most frames ports (Collided frame start attempt hit drawn) none e = refl
quiet_body most frames ports (Cut frame start attempt hit) none e = refl
quiet_body most frames ports (Received octets) none e = refl
quiet_body most frames ports (Dropped why halves) none e = refl
quiet_body most frames ports Clash none e = refl
quiet_body most frames ports (Closed port) none e = refl
quiet_body most frames ports (Opened port) none e = refl
quiet_body most frames ports (Halted port) none e = refl

frames_past : (queues : List (List Ready)) (i : ℕ) → length queues ≤ i → frames_in (slice_get queues i) ≡ 0
frames_past [] i le = refl
frames_past (q ∷ qs) zero le = absurd (omega arith)
frames_past (q ∷ qs) (suc i) le = frames_past qs i (omega arith)

past_row : (plan : Plan) (t i : ℕ) (row : Row) → length plan.queues ≤ i → IsIn plan t row → cond (eqb row.device i) (ends_by row.body) 0 ≡ 0
unfolding is_row_in
past_row plan t i row le h =
    elim (cases_Bool (eqb row.device i)) [
      | inl same ↦ (
          let at : row.device ≡ i = eqb-true row.device i same in
          let none : frames_in (slice_get plan.queues row.device) ≡ 0 = frames_past plan.queues row.device (omega (arith, at, le)) in
          ap (λ b. cond b (ends_by row.body) 0) same ∙ quiet_body _ (frames_in (slice_get plan.queues row.device)) _ row.body none h.range
          )
      | inr other ↦ ap (λ b. cond b (ends_by row.body) 0) other
    ]

none_past : (plan : Plan) (t i : ℕ) (rows : List Row) → length plan.queues ≤ i → AllByRecursion (IsIn plan t) rows → ends i rows ≡ 0
none_past plan t i [] le h = refl
none_past plan t i (row ∷ rows) le h = omega (arith, past_row plan t i row le h.0, none_past plan t i rows le h.1)

-- the senders
phase_stands : (queue : List Ready) (place : ℕ) (p : Phase) → place ≤ length queue → IsPhaseIn queue place p → Stands place (length queue) p
phase_stands queue place Rest le h = le
phase_stands queue place Waiting le h = h
phase_stands queue place (Sending start hit) le h = absurd h
phase_stands queue place (Backoff until) le h = h.0

senders_hold : (seed t k : ℕ) (qs : List (List Ready)) (ss : List SenderState) (rows : List Row) → AreSendersOf qs ss → do_all_end k ss rows ≡ true → (i j : ℕ) (d : Sender) → i ≡ k + j → j < length (resumed_senders seed t k qs ss)
    → Holds (get_or qs j []) (ends i rows) (get_or (resumed_senders seed t k qs ss) j d)
senders_hold seed t k [] [] rows h all i j d at lt = absurd (omega arith)
senders_hold seed t k [] (s ∷ ss) rows h all i j d at lt = absurd h
senders_hold seed t k (q ∷ qs) [] rows h all i j d at lt = absurd h
senders_hold seed t k (q ∷ qs) (s ∷ ss) rows h all i zero d at lt =
    let here : i ≡ k = omega arith in
    let many : frames_ended k rows ≡ s.place = eqb-true (frames_ended k rows) s.place (and_parts _ _ all).0 in
    record { queue = refl; ended = omega (arith, ap (λ n. ends n rows) here, ends_counted k rows, many); stands = phase_stands q s.place s.phase h.0.place h.0.phase }
senders_hold seed t k (q ∷ qs) (s ∷ ss) rows h all i (suc j) d at lt = senders_hold seed t (k + 1) qs ss rows h.2 (and_parts _ _ all).1 i j d (omega arith) (omega arith)

senders_many : (seed t k : ℕ) (qs : List (List Ready)) (ss : List SenderState) → AreSendersOf qs ss → length (resumed_senders seed t k qs ss) ≡ length qs
senders_many seed t k [] [] h = refl
senders_many seed t k [] (s ∷ ss) h = absurd h
senders_many seed t k (q ∷ qs) [] h = absurd h
senders_many seed t k (q ∷ qs) (s ∷ ss) h = ap suc (senders_many seed t (k + 1) qs ss h.2)

no_sender : Sender
no_sender = new_sender [] (record { seed = 0; station = 0; made = 0 })

held_within : (queue : List Ready) (ended : ℕ) (s : Sender) → Holds queue ended s → ended ≤ length queue
held_within queue ended s h = omega (arith, place_within s.place (length s.queue) s.phase h.stands, h.ended, ap length h.queue)

pub rows_in_range : (plan : Plan) (s : NetState) → IsStateOfPlan plan s → AllByRecursion (IsIn plan s.t) s.rows
rows_in_range plan s h = subst (λ (rows : List Row). AllByRecursion (IsIn plan s.t) rows) (rows_back s.rows s.captures) (entries_in plan s.t s.senders [] (entries_of s.rows s.captures) h.entries)

first_hold : (plan : Plan) (s : NetState) → IsStateOfPlan plan s → AllHold plan.queues (net_of plan s)
first_hold plan s h =
    let stand : (i : ℕ) (d : Sender) → i < length (resumed_senders plan.layout.seed s.t 0 plan.queues s.senders)
    → Holds (get_or plan.queues i []) (ends i s.rows) (get_or (resumed_senders plan.layout.seed s.t 0 plan.queues s.senders) i d) =
    λ i d lt. senders_hold plan.layout.seed s.t 0 plan.queues s.senders s.rows h.senders h.ended i i d (omega arith) lt in
    record {
      few = λ i. elim (cases_lt i (length (resumed_senders plan.layout.seed s.t 0 plan.queues s.senders))) [
        | inl lt ↦ held_within (get_or plan.queues i []) (ends i s.rows) _ (stand i no_sender lt)
        | inr le ↦ (
            let none : ends i s.rows ≡ 0 = none_past plan s.t i s.rows (omega (arith, le, senders_many plan.layout.seed s.t 0 plan.queues s.senders h.senders)) (rows_in_range plan s h) in
            omega (arith, none)
            )
      ];
      stand = stand;
    }

few_end : (plan : Plan) (s : NetState) → IsStateOfPlan plan s → (i : ℕ) → ends i (rows_from plan s) ≤ length (get_or plan.queues i [])
unfolding rows_from
few_end plan s h i =
    let n = end_net (half_bits plan) (net_of plan s) in
    let cut = cut_rows (half_bits plan) 0 n.senders in
    let hold : AllHold plan.queues n = later_hold plan.queues (net_of plan s) (half_bits plan - s.t) (first_hold plan s h) in
    omega (arith, ends-append i n.rows cut, cuts_calm (half_bits plan) 0 i n.senders, hold.few i)

-- of no device more frames are sent and given up than were queued
pub resumed_frames_are_left : (plan : Plan) (s : NetState) → IsStateOfPlan plan s → AreLeft (counts_of plan (rows_from plan s))
unfolding counts_of first_counts
resumed_frames_are_left plan s h =
    let same : length plan.skips ≡ length plan.queues = omega (arith, plan.queued, plan.counted) in
    stations_left 0 (length plan.layout.repeaters) plan.queues plan.skips (rows_from plan s) same (λ i j at. subst (λ m. ends i (rows_from plan s) ≤ length (get_or plan.queues m [])) (at_zero i j at) (few_end plan s h i))
  where
    at_zero : (i j : ℕ) → i ≡ 0 + j → i ≡ j
    at_zero i j at = omega arith
