-- The states of a plan are those from which its network can go on, and those of its quiet half bits are among them.
use Rattle.std.proofs.Common.{◌≡◌, ℕ, zero, suc, ◌+◌, ◌*◌, ◌<◌, ◌≤◌, ◌^◌, ◌==◌, true, if◌then◌else◌, All, List, [], ◌∷◌, ◌++◌, flat_map, map, length, replicate, get_or, None, refl, sym, ap, subst, ◌∙◌, arith, inl, inr, length-append}
use Rattle.std.specs.Prelude.{slice_get}
use Rattle.std.specs.List.{AllByRecursion, range_with_len}
use Rattle.std.proofs.lemmas.Bool.{cases_Bool, cases_lt}
use Rattle.std.proofs.lemmas.List.{get_or_default, length-replicate, same_lists}
use Rattle.std.proofs.lemmas.List.Elements.{All-from_recursion, recursion_from_All}
use Rattle.std.proofs.lemmas.List.FromFn.{get_or-map-range_with_len, length-map-range_with_len, length-range_with_len}
use Rattle.std.proofs.lemmas.List.Recursion.{is_count_by}
use Rattle.collision_log.specs.declared.row.Body.{Body}
use Rattle.collision_log.specs.declared.row.Body.TheVariants.{Sent, Collided, GivenUp, Cut, Received, Dropped, Clash, Closed, Opened, Halted}
use Rattle.collision_log.specs.declared.row.Row.{Row}
use Rattle.frame_layout.specs.declared.queue.Ready.{Ready}
use Rattle.layout.specs.declared.lines.Layout.{Layout}
use Rattle.layout.specs.declared.lines.RepeaterLine.{RepeaterLine}
use Rattle.load_plan.specs.declared.plan.Plan.{Plan}
use Rattle.load_plan.proofs.PlansAreSound.{sound_of_plan}
use Rattle.log_meter.specs.Lines.{IsInRange}
use Rattle.log_meter.specs.LoggedRows.{IsLoggable}
use Rattle.log_meter.proofs.PlannedRows.{planned_rows}
use Rattle.mac_parameters.specs.Parameters.{jabber_rest, most_ports}
use Rattle.mac_transmit.specs.declared.deference.Defer.TheVariants.{Watch}
use Rattle.mac_transmit.specs.declared.phase.Phase.TheVariants.{Rest}
use Rattle.mac_transmit.specs.declared.state.SenderState.{SenderState}
use Rattle.network.specs.Net.{net, rows_in}
use Rattle.network.specs.Outputs.{cut_rows, half_bits, rows}
use Rattle.network.specs.Times.{port_delays}
use Rattle.network.specs.declared.outputs.Taken.{Taken}
use Rattle.port_partition.specs.Guard.{Guard, IsGuard}
use Rattle.quiet_state.specs.PlanStates.{AreStatesOf, HasRowsOf, IsResumable, IsRowOf, ended_frames, own_rows}
use Rattle.quiet_state.specs.Quiet.{IsQuiet}
use Rattle.quiet_state.specs.Resumed.{state_at}
use Rattle.quiet_state.specs.declared.state.NetState.{NetState}
use Rattle.quiet_state.proofs.ResumableStates.{states_resumable}
use Rattle.quiet_state.proofs.StateRows.{states_have_rows}
use Rattle.run_checkpoint.specs.Entries.{entries_of, taken_by_station}
use Rattle.run_checkpoint.specs.Places.{NamedPort, all_ports, ports_named, ports_of_repeaters}
use Rattle.run_checkpoint.specs.Ranges.{do_all_end, does_end_frame, ended_frame, frames_ended, is_there, queue_place}
use Rattle.run_checkpoint.specs.States.{AreGuardsOf, AreSendersOf, IsStateOfPlan}
use Rattle.run_checkpoint.proofs.EntriesOfRows.{same_eqb}
use Rattle.run_checkpoint.proofs.QuietStates.{Follow, HoldOctets, in_order, spread, tells}
use Rattle.run_checkpoint.proofs.StateLengths.{as_many_guards}

-- ---- one for each port

many_ports_of : (rs : List RepeaterLine) → length (ports_of_repeaters rs) ≡ length (flat_map (λ (r : RepeaterLine). replicate (length r.ports) r.delay) rs)
many_ports_of [] = refl
many_ports_of (r ∷ rs) =
    omega (
      arith,
      length-append (ports_named r.name (length r.ports)) (ports_of_repeaters rs),
      length-append (replicate (length r.ports) r.delay) (flat_map (λ (x : RepeaterLine). replicate (length x.ports) x.delay) rs),
      length-map-range_with_len (λ p. port_named r.name p) 0 (length r.ports),
      length-replicate (length r.ports) r.delay,
      many_ports_of rs,
    )
  where
    port_named : List ℕ → ℕ → NamedPort
    port_named name p = record { name = name; port = p + 1 }

many_ports : (layout : Layout) → length (all_ports layout) ≡ length (port_delays layout)
many_ports layout = many_ports_of layout.repeaters

guards_of : (ports : List NamedPort) (gs : List Guard) (rests : List ℕ) → length gs ≡ length ports → length rests ≡ length ports → AllByRecursion IsGuard gs → AllByRecursion (λ rest. rest < jabber_rest) rests
    → AreGuardsOf ports gs rests
guards_of [] [] [] many more a b = tt
guards_of (p ∷ ps) (g ∷ gs) (r ∷ rs) many more a b = (a.0, b.0, guards_of ps gs rs (omega (arith, many)) (omega (arith, more)) a.1 b.1)
guards_of [] (g ∷ gs) rests many more a b = absurd (omega (arith, many))
guards_of [] [] (r ∷ rs) many more a b = absurd (omega (arith, more))
guards_of (p ∷ ps) [] rests many more a b = absurd (omega (arith, many))
guards_of (p ∷ ps) (g ∷ gs) [] many more a b = absurd (omega (arith, more))

all_guards : (ports : List NamedPort) (gs : List Guard) (rests : List ℕ) → AreGuardsOf ports gs rests → AllByRecursion IsGuard gs × AllByRecursion (λ rest. rest < jabber_rest) rests
all_guards [] [] [] h = (tt, tt)
all_guards (p ∷ ps) (g ∷ gs) (r ∷ rs) h = let more = all_guards ps gs rs h.2 in ((h.0, more.0), (h.1, more.1))
all_guards [] [] (r ∷ rs) h = absurd h
all_guards [] (g ∷ gs) [] h = absurd h
all_guards [] (g ∷ gs) (r ∷ rs) h = absurd h
all_guards (p ∷ ps) [] [] h = absurd h
all_guards (p ∷ ps) [] (r ∷ rs) h = absurd h
all_guards (p ∷ ps) (g ∷ gs) [] h = absurd h

-- ---- a network can go on from a state of its plan

states_of : (queues : List (List Ready)) (ss : List SenderState) → AreSendersOf queues ss → AreStatesOf queues ss
states_of [] [] h = tt
states_of (q ∷ qs) (s ∷ ss) h = (h.0, states_of qs ss h.2)
states_of [] (s ∷ ss) h = absurd h
states_of (q ∷ qs) [] h = absurd h

pub resumable : (plan : Plan) (s : NetState) → IsStateOfPlan plan s → IsResumable plan s
resumable plan s h =
    let many = as_many_guards (all_ports plan.layout) s.guards s.rests h.guards in
    let all = all_guards (all_ports plan.layout) s.guards s.rests h.guards in
    let ports = many_ports plan.layout in
    record {
      within = h.time;
      senders = states_of plan.queues s.senders h.senders;
      guards_many = sym many.0 ∙ ports;
      guards = All-from_recursion IsGuard s.guards all.0;
      rests_many = sym many.1 ∙ ports;
      rests = All-from_recursion (λ rest. rest < jabber_rest) s.rests all.1;
      captures_many = ap length h.captures ∙ length-map-range_with_len _ 0 (length plan.layout.stations);
    }

-- ---- the rows of a quiet half bit

front : {X : Type 0} (P : X → Type 0) (xs ys : List X) → AllByRecursion P (xs ++ ys) → AllByRecursion P xs
front P [] ys all = tt
front P (x ∷ xs) ys all = (all.0, front P xs ys all.1)

rows_down : (plan : Plan) (n t : ℕ) → t ≤ n → AllByRecursion (IsLoggable plan.layout) (net plan n).rows → AllByRecursion (IsLoggable plan.layout) (net plan t).rows
rows_down plan zero t le h = let e : zero ≡ t = omega (arith, le) in subst (λ u. AllByRecursion (IsLoggable plan.layout) (net plan u).rows) e h
rows_down plan (suc n) t le h =
    elim (cases_lt n t) [
      | inl past ↦ let e : suc n ≡ t = omega (arith, le, past) in subst (λ u. AllByRecursion (IsLoggable plan.layout) (net plan u).rows) e h
      | inr within ↦ rows_down plan n t (omega (arith, within)) (front (IsLoggable plan.layout) (net plan n).rows (rows_in (net plan n)) h)
    ]

all_rows : (plan : Plan) → AllByRecursion (IsLoggable plan.layout) ((net plan (half_bits plan)).rows ++ cut_rows (half_bits plan) 0 (net plan (half_bits plan)).senders)
unfolding rows
all_rows plan = (planned_rows plan).each

loggable_rows : (plan : Plan) (t : ℕ) → t ≤ half_bits plan → AllByRecursion (IsLoggable plan.layout) (net plan t).rows
loggable_rows plan t le =
    rows_down plan (half_bits plan) t le (front (IsLoggable plan.layout) (net plan (half_bits plan)).rows (cut_rows (half_bits plan) 0 (net plan (half_bits plan)).senders) (all_rows plan))

-- ---- places

abbrev no_state : SenderState
no_state = record { phase = Rest; defer = Watch; attempt = 1; place = 0; drawn = 0 }

place_at : (ss : List SenderState) (k : ℕ) → (get_or ss k no_state).place ≡ queue_place (slice_get ss k)
place_at [] k = refl
place_at (s ∷ ss) zero = refl
place_at (s ∷ ss) (suc k) = place_at ss k

frame_small : (t : ℕ) (body : Body) → IsInRange t body → AllByRecursion (λ n. n < 2 ^ 32) (ended_frames body)
frame_small t (Sent frame start attempt) h = (h.0, tt)
frame_small t (GivenUp frame start hit) h = (h.0, tt)
frame_small t (Collided frame start attempt hit drawn) h = tt
frame_small t (Cut frame start attempt hit) h = tt
frame_small t (Received octets) h = tt
frame_small t (Dropped why halves) h = tt
frame_small t Clash h = tt
frame_small t (Closed port) h = tt
frame_small t (Opened port) h = tt
frame_small t (Halted port) h = tt

both : {X : Type 0} (P : X → Type 0) (xs ys : List X) → AllByRecursion P xs → AllByRecursion P ys → AllByRecursion P (xs ++ ys)
both P [] ys a b = b
both P (x ∷ xs) ys a b = (a.0, both P xs ys a.1 b)

frames_small : (layout : Layout) (k : ℕ) (rs : List Row) → AllByRecursion (IsLoggable layout) rs → AllByRecursion (λ n. n < 2 ^ 32) (flat_map (λ (row : Row). ended_frames row.body) (own_rows k rs))
frames_small layout k [] h = tt
frames_small layout k (r ∷ rs) h =
    elim (cases_Bool (r.device == k)) [
      | inl own ↦ rw own (both (λ n. n < 2 ^ 32) (ended_frames r.body) (flat_map (λ (row : Row). ended_frames row.body) (own_rows k rs)) (frame_small r.t r.body h.0.numbers) (frames_small layout k rs h.1))
      | inr other ↦ rw other (frames_small layout k rs h.1)
    ]

range_small : (a n b : ℕ) → a ≤ b → AllByRecursion (λ x. x < b) (range_with_len a n) → a + n ≤ b
range_small a zero b le h = omega (arith, le)
range_small a (suc n) b le h = omega (arith, range_small (a + 1) n b (omega (arith, h.0)) h.1)

senders_of : (queues : List (List Ready)) (ss : List SenderState) → AreStatesOf queues ss → ((k : ℕ) → k < length queues → (get_or ss k no_state).place < 2 ^ 32) → AreSendersOf queues ss
senders_of [] [] h small = tt
senders_of (q ∷ qs) (s ∷ ss) h small = (h.0, small 0 (omega arith), senders_of qs ss h.1 (λ k l. small (suc k) (omega (arith, l))))
senders_of [] (s ∷ ss) h small = absurd h
senders_of (q ∷ qs) [] h small = absurd h

-- how many frames of station k end, by the frames
abbrev ended_length : (k : ℕ) → List Row → ℕ
ended_length k rs = length (flat_map (λ (row : Row). ended_frames row.body) (own_rows k rs))

ended_row : (k : ℕ) (r : Row) (rs : List Row) → ended_length k (r ∷ rs) ≡ (if does_end_frame k r then 1 + ended_length k rs else ended_length k rs)
ended_row k r rs = by_body r.body r.device r.t
  where
    by_body : (b : Body) (d t : ℕ) → ended_length k (record { t = t; device = d; body = b } ∷ rs) ≡ (if does_end_frame k (record { t = t; device = d; body = b }) then 1 + ended_length k rs else ended_length k rs)
    by_body b d t = elim (cases_Bool (d == k)) [ inl own ↦ rw own (mine b) | inr other ↦ rw other refl ]
      where
        mine : (b : Body) → length (ended_frames b ++ flat_map (λ (row : Row). ended_frames row.body) (own_rows k rs)) ≡ (if is_there (ended_frame b) then 1 + ended_length k rs else ended_length k rs)
        mine (Sent frame start attempt) = omega arith
        mine (GivenUp frame start hit) = omega arith
        mine (Collided frame start attempt hit drawn) = refl
        mine (Cut frame start attempt hit) = refl
        mine (Received octets) = refl
        mine (Dropped why halves) = refl
        mine Clash = refl
        mine (Closed port) = refl
        mine (Opened port) = refl
        mine (Halted port) = refl

ended_counted : (k : ℕ) (rs : List Row) → ended_length k rs ≡ frames_ended k rs
ended_counted k rs = is_count_by (ended_length k) (does_end_frame k) refl (ended_row k) rs

do_end : (rs : List Row) (j : ℕ) (ss : List SenderState) → ((i : ℕ) → i < length ss → frames_ended (j + i) rs ≡ (get_or ss i no_state).place) → do_all_end j ss rs ≡ true
do_end rs j [] h = refl
do_end rs j (s ∷ ss) h =
    let e : j + 0 ≡ j = omega arith in
    let first : frames_ended j rs ≡ s.place = ap (λ i. frames_ended i rs) (sym e) ∙ h 0 (omega arith) in
    rw (first, same_eqb s.place) (do_end rs (j + 1) ss (λ i l. let f : (j + 1) + i ≡ j + suc i = omega arith in ap (λ x. frames_ended x rs) f ∙ h (suc i) (omega (arith, l))))

-- ---- captures

whole_range : (xs : List (List Taken)) (n : ℕ) → length xs ≡ n → map (λ k. get_or xs k []) (range_with_len 0 n) ≡ xs
whole_range xs n many =
    let long = length-map-range_with_len (λ k. get_or xs k []) 0 n in
    same_lists (map (λ k. get_or xs k []) (range_with_len 0 n)) xs (omega (arith, long, many))
    (λ k d l. let z : 0 + k ≡ k = omega arith in get_or-map-range_with_len (λ i. get_or xs i []) 0 n k k d (omega (arith, l, long)) z ∙ get_or_default xs k [] d (omega (arith, l, long, many)))

same_below : {X : Type 0} (f g : ℕ → X) (a n : ℕ) → ((k : ℕ) → k < a + n → f k ≡ g k) → map f (range_with_len a n) ≡ map g (range_with_len a n)
same_below f g a zero same = refl
same_below f g a (suc n) same = rw (same a (omega arith), same_below f g (a + 1) n (λ k l. same k (omega (arith, l)))) refl

abbrev HasOctets : Taken → Type 0
HasOctets x = All (λ octet. octet < 2 ^ 8) x.octets

hold : (xs : List Taken) → All HasOctets xs → HoldOctets xs
hold [] all = tt
hold (x ∷ xs) all = (recursion_from_All (λ octet. octet < 2 ^ 8) x.octets (all 0 x (omega arith)), hold xs (λ k d l. all (suc k) d (omega (arith, l))))

-- ---- the states of quiet half bits

state_of_plan : (plan : Plan) (s : NetState) → IsResumable plan s → HasRowsOf plan s → AllByRecursion (IsLoggable plan.layout) s.rows → IsStateOfPlan plan s
state_of_plan plan s r w logged =
    let stations = length plan.layout.stations in
    let h : ℕ → List Taken = λ k. get_or s.captures k [] in
    let whole : spread plan h ≡ s.captures = whole_range s.captures stations r.captures_many in
    let frames = λ (k : ℕ) (l : k < stations). w.ended k no_state l in
    let small : (k : ℕ) → k < length plan.queues → (get_or s.senders k no_state).place < 2 ^ 32 = λ k l.
    let low : k < stations = omega (arith, l, plan.queued) in
    omega (arith, range_small 1 (get_or s.senders k no_state).place (2 ^ 32) (omega arith) (subst (AllByRecursion (λ n. n < 2 ^ 32)) (frames k low) (frames_small plan.layout k s.rows logged))) in
    let follow : Follow plan s.t s.senders [] None s.rows h =
    record {
      is_last = refl;
      loggable = logged;
      each = recursion_from_All (IsRowOf plan s.t) s.rows w.rows;
      order = in_order s.rows w.order;
      ended = λ k l. record { left = queue_place (slice_get s.senders k); frames = frames k l ∙ ap (range_with_len 1) (place_at s.senders k); all = omega arith };
      received = λ k l. w.received k l;
      octets = λ k l. hold (h k) (w.octets k [] (omega (arith, l, r.captures_many)));
    } in
    let told = tells plan s.t s.senders [] None s.rows h follow in
    let senders_many : length s.senders ≡ length plan.queues = many_states plan.queues s.senders r.senders in
    record {
      time = r.within;
      senders = senders_of plan.queues s.senders r.senders small;
      guards =
          guards_of (all_ports plan.layout) s.guards s.rests (r.guards_many ∙ sym (many_ports plan.layout)) (r.rests_many ∙ sym (many_ports plan.layout)) (recursion_from_All IsGuard s.guards r.guards)
          (recursion_from_All (λ rest. rest < jabber_rest) s.rests r.rests);
      entries = rw whole at told.entries;
      ended = do_end s.rows 0 s.senders (λ i l.
          let z : 0 + i ≡ i = omega arith in
          ap (λ (x : ℕ). frames_ended x s.rows) z ∙ sym (ended_counted i s.rows) ∙ (ap length (frames i (omega (arith, l, senders_many, plan.queued))) ∙ length-range_with_len 1 (get_or s.senders i no_state).place));
      captures =
          sym whole
          ∙ sym (same_below (λ k. taken_by_station k (entries_of s.rows s.captures)) h 0 stations (λ k l. ap (λ ws. taken_by_station k (entries_of s.rows ws)) (sym whole) ∙ told.frames k (omega (arith, l))));
    }
  where
    many_states : (queues : List (List Ready)) (ss : List SenderState) → AreStatesOf queues ss → length ss ≡ length queues
    many_states [] [] a = refl
    many_states (q ∷ qs) (x ∷ xs) a = ap suc (many_states qs xs a.1)
    many_states [] (x ∷ xs) a = absurd a
    many_states (q ∷ qs) [] a = absurd a

-- the state of a quiet half bit is one of its plan
pub quiet_states : (plan : Plan) (t : ℕ) → IsQuiet plan t → IsStateOfPlan plan (state_at plan t)
quiet_states plan t quiet =
    let soon : t ≤ half_bits plan = omega (arith, quiet.within) in
    state_of_plan plan (state_at plan t) (states_resumable plan t quiet) (states_have_rows plan t soon) (loggable_rows plan t soon)

-- ---- how many ports there are

few_ports_of : (rs : List RepeaterLine) → ((k : ℕ) (d : RepeaterLine) → k < length rs → length (get_or rs k d).ports ≤ most_ports) → length (ports_of_repeaters rs) ≤ most_ports * length rs
few_ports_of [] all = omega arith
few_ports_of (r ∷ rs) all =
    let first : length r.ports ≤ most_ports = all 0 r (omega arith) in
    omega (
      arith,
      length-append (ports_named r.name (length r.ports)) (ports_of_repeaters rs),
      length-map-range_with_len (λ p. port_named r.name p) 0 (length r.ports),
      first,
      few_ports_of rs (λ k d l. all (suc k) d (omega (arith, l))),
    )
  where
    port_named : List ℕ → ℕ → NamedPort
    port_named name p = record { name = name; port = p + 1 }

pub few_ports : (plan : Plan) → length (all_ports plan.layout) ≤ 4096
few_ports plan =
    let sound = sound_of_plan plan in
    omega (arith, few_ports_of plan.layout.repeaters (λ k d l. (sound.repeaters k d l).ports_most), sound.repeaters_most)
