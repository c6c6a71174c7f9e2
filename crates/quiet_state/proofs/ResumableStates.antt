-- The network of a plan can go on from the state of a quiet half bit.
use Rattle.std.proofs.Common.{◌≡◌, ℕ, zero, suc, ◌+◌, ◌<◌, ◌≤◌, eqb, Option, All, List, [], ◌∷◌, map, take, drop, replicate, length, length-append, get_or, refl, sym, subst, ap, ap₂, ◌∙◌, arith}
use Rattle.std.specs.List.{flat_map, AllByRecursion}
use Rattle.std.proofs.lemmas.Bool.{cond_both}
use Rattle.std.proofs.lemmas.List.{length-map, length-replicate}
use Rattle.std.proofs.lemmas.List.Elements.{All-append, All-from_recursion}
use Rattle.mac_parameters.specs.Parameters.{jabber_limit, jabber_rest, most_octets}
use Rattle.manchester_line.specs.declared.Sym.{Sym}
use Rattle.manchester_line.specs.declared.Sym.TheVariants as sy
use Rattle.manchester_line.specs.Line.{is_signal}
use Rattle.frame_layout.specs.declared.queue.Ready.{Ready}
use Rattle.collision_log.specs.declared.row.Body.{Body}
use Rattle.layout.specs.declared.lines.RepeaterLine.{RepeaterLine}
use Rattle.layout.specs.declared.lines.StationLine.{StationLine}
use Rattle.load_plan.specs.declared.plan.Plan.{Plan}
use Rattle.load_plan.proofs.PlansAreSound.{sound_of_plan}
use Rattle.mac_transmit.specs.Attempts.{run}
use Rattle.mac_transmit.specs.Resuming.{state_of, IsStateOf}
use Rattle.mac_transmit.specs.Sender.{Sender}
use Rattle.mac_receive.specs.Receiver.{Receiving, Reception}
use Rattle.port_partition.specs.Guard.{Guard, IsGuard, new_guard}
use Rattle.port_partition.proofs.GuardsLater.{guard_kept}
use Rattle.repeater_core.specs.declared.modes.Mode.{Mode}
use Rattle.repeater_core.specs.Counts.{Count, Choice, choice, choice_awake, choices_from, resting_count}
use Rattle.repeater_core.specs.Modes.{wish_of}
use Rattle.repeater_core.specs.Step.{RepeaterDevice, after, chosen, collides, emitted_by, guards_after, mode_next}
use Rattle.network.specs.Attempts.{sender_at}
use Rattle.network.specs.Captures.{captured}
use Rattle.network.specs.Net.{net, each_repeater, new_repeater, ports_hear, receptions, receptions_in, stations_hear, stations_emit}
use Rattle.network.specs.Times.{heard}
use Rattle.network.specs.declared.outputs.Taken.{Taken}
use Rattle.network.proofs.DelayLines.{LinesUp, delays}
use Rattle.network.proofs.StationAttempts.{first_sender, no_sender, station_runs, shape_of}
use Rattle.quiet_state.specs.Laws.{QuietStatesAreResumable}
use Rattle.quiet_state.specs.PlanStates.{AreStatesOf}
use Rattle.quiet_state.specs.Quiet.{IsQuiet}
use Rattle.quiet_state.proofs.QuietNets.{time_is}
use Rattle.quiet_state.proofs.ResumedStations.{AreTuned, many_emit, many_hear, step_owner, tuned}
use Rattle.quiet_state.proofs.SenderRanges.{resumable_sender, sender_in_range}

-- the senders
run_queue : (s : Sender) (h : ℕ → Sym) (t : ℕ) → (run s h t).queue ≡ s.queue
run_queue s h zero = refl
run_queue s h (suc t) = ap (λ o. o.queue) (step_owner (run s h t) (h t)) ∙ run_queue s h t

pub queue_of : (plan : Plan) (k t : ℕ) → k < length plan.layout.stations → (sender_at plan k t).queue ≡ get_or plan.queues k []
queue_of plan k t l = ap (λ (s : Sender). s.queue) (station_runs plan k t l) ∙ run_queue (first_sender plan k) (heard plan k) t

all_states : (qs : List (List Ready)) (ss : List Sender) → length qs ≡ length ss → ((i : ℕ) → i < length ss → IsStateOf (get_or qs i []) (state_of (get_or ss i no_sender))) → AreStatesOf qs (map state_of ss)
all_states [] [] l h = tt
all_states [] (s ∷ ss) l h = absurd (omega arith)
all_states (q ∷ qs) [] l h = absurd (omega arith)
all_states (q ∷ qs) (s ∷ ss) l h = (h 0 (omega arith), all_states qs ss (omega arith) (λ i m. h (suc i) (omega arith)))

states_of_senders : (plan : Plan) (t : ℕ) → IsQuiet plan t → AreStatesOf plan.queues (map state_of (net plan t).senders)
states_of_senders plan t q =
    let n = net plan t in
    let queued : length plan.queues ≡ length plan.layout.stations = plan.queued in
    let many : length n.senders ≡ length plan.layout.stations = (shape_of plan t).senders in
    let within = q.within in
    let bits = (sound_of_plan plan).bits_most in
    all_states plan.queues n.senders (queued ∙ sym many) (λ k l.
    let low : k < length plan.layout.stations = omega (arith, l, many) in
    subst (λ (x : List Ready). IsStateOf x (state_of (sender_at plan k t))) (queue_of plan k t low)
    (resumable_sender t t (sender_at plan k t) (omega (arith, within, bits)) (q.senders k no_sender l) (sender_in_range plan k t low (omega (arith, within, bits)))))

-- the guards
guards_kept : (gs : List Guard) (hs es : List Sym) → AllByRecursion IsGuard gs → AllByRecursion IsGuard (guards_after gs hs es)
guards_kept [] hs es a = tt
guards_kept (g ∷ gs) [] es a = tt
guards_kept (g ∷ gs) (h ∷ hs) [] a = tt
guards_kept (g ∷ gs) (h ∷ hs) (e ∷ es) a = (guard_kept (is_signal h) (collides h e) (is_signal e) g a.0, guards_kept gs hs es a.1)

-- the rests
abbrev pub RestsBriefly : Count → Type 0
RestsBriefly c = c.rest < jabber_rest

awake_brief : (s : Sym) (c : Count) → RestsBriefly (choice_awake s c).count
awake_brief sy.Idle c = omega arith
awake_brief sy.Hi c = cond_both (eqb c.run jabber_limit) _ _ (λ (x : Choice). RestsBriefly x.count) (λ _. omega arith) (λ _. omega arith)
awake_brief sy.Lo c = cond_both (eqb c.run jabber_limit) _ _ (λ (x : Choice). RestsBriefly x.count) (λ _. omega arith) (λ _. omega arith)
awake_brief sy.Clash c = cond_both (eqb c.run jabber_limit) _ _ (λ (x : Choice). RestsBriefly x.count) (λ _. omega arith) (λ _. omega arith)

brief : (s : Sym) (c : Count) → RestsBriefly c → RestsBriefly (choice s c).count
brief s c h = cond_both (eqb c.rest 0) (choice_awake s c) _ (λ (x : Choice). RestsBriefly x.count) (λ _. awake_brief s c) (λ _. omega (arith, h))

all_brief : (m : Mode) (hs : List Sym) (q : ℕ) (cs : List Count) → AllByRecursion RestsBriefly cs → AllByRecursion RestsBriefly (map (λ x. x.count) (choices_from m hs q cs))
all_brief m hs q [] a = tt
all_brief m hs q (c ∷ cs) a = (brief (wish_of m hs q) c a.0, all_brief m hs (q + 1) cs a.1)

-- both, of one repeater
record IsKept (r : RepeaterDevice) : Type 0 where
  guards : AllByRecursion IsGuard r.guards
  rests : AllByRecursion RestsBriefly r.counts

kept_after : (hs : List Sym) (r : RepeaterDevice) → IsKept r → IsKept (after hs r)
unfolding chosen
kept_after hs r h = record { guards = guards_kept r.guards hs (emitted_by r) h.guards; rests = all_brief (mode_next hs r) hs 0 r.counts h.rests }

all_kept_after : (hs : List Sym) (rs : List RepeaterDevice) → AllByRecursion IsKept rs → AllByRecursion IsKept (each_repeater after hs rs)
all_kept_after hs [] a = tt
all_kept_after hs (r ∷ rs) a = (kept_after (take (length r.guards) hs) r a.0, all_kept_after (drop (length r.guards) hs) rs a.1)

new_guards : (n : ℕ) → AllByRecursion IsGuard (replicate n new_guard)
new_guards zero = tt
new_guards (suc n) = (record { row_at_most = omega arith; clash_at_most = omega arith; clean_at_most = omega arith; mend_if_closed = λ e. e }, new_guards n)

new_rests : (n : ℕ) → AllByRecursion RestsBriefly (replicate n (resting_count 0))
new_rests zero = tt
new_rests (suc n) = (omega arith, new_rests n)

all_new : (ls : List RepeaterLine) → AllByRecursion IsKept (map new_repeater ls)
all_new [] = tt
all_new (l ∷ ls) = (record { guards = new_guards (length l.ports); rests = new_rests (length l.ports) }, all_new ls)

kept : (plan : Plan) (t : ℕ) → AllByRecursion IsKept (net plan t).repeaters
kept plan zero = all_new plan.layout.repeaters
kept plan (suc t) = all_kept_after (ports_hear (net plan t)) (net plan t).repeaters (kept plan t)

all_guards : (rs : List RepeaterDevice) → AllByRecursion IsKept rs → All IsGuard (flat_map (λ r. r.guards) rs)
all_guards [] a = All-from_recursion IsGuard [] tt
all_guards (r ∷ rs) a =
    All-append IsGuard r.guards (flat_map (λ (x : RepeaterDevice). x.guards) rs) (All-from_recursion IsGuard r.guards a.0.guards) (all_guards rs a.1)

few_rests : (cs : List Count) → AllByRecursion RestsBriefly cs → AllByRecursion (λ rest. rest < jabber_rest) (map (λ c. c.rest) cs)
few_rests [] a = tt
few_rests (c ∷ cs) a = (a.0, few_rests cs a.1)

abbrev IsRest : ℕ → Type 0
IsRest rest = rest < jabber_rest

all_rests : (rs : List RepeaterDevice) → AllByRecursion IsKept rs → All IsRest (flat_map (λ r. map (λ c. c.rest) r.counts) rs)
all_rests [] a = All-from_recursion IsRest [] tt
all_rests (r ∷ rs) a =
    All-append IsRest (map (λ (c : Count). c.rest) r.counts) (flat_map (λ (x : RepeaterDevice). map (λ (c : Count). c.rest) x.counts) rs)
    (All-from_recursion IsRest (map (λ (c : Count). c.rest) r.counts) (few_rests r.counts a.0.rests)) (all_rests rs a.1)

-- one for each port
pub delays_long : (l : RepeaterLine) (ls : List RepeaterLine) → length (delays (l ∷ ls)) ≡ length l.ports + length (delays ls)
delays_long l ls = length-append (replicate (length l.ports) l.delay) (delays ls) ∙ ap (λ n. n + length (delays ls)) (length-replicate (length l.ports) l.delay)

many_guards : (ls : List RepeaterLine) (rs : List RepeaterDevice) (h : List (List Sym)) → LinesUp ls rs h → length (flat_map (λ r. r.guards) rs) ≡ length (delays ls)
many_guards [] [] h up = refl
many_guards [] (r ∷ rs) h up = absurd up
many_guards (l ∷ ls) [] h up = absurd up
many_guards (l ∷ ls) (r ∷ rs) h up =
    length-append r.guards (flat_map (λ (x : RepeaterDevice). x.guards) rs) ∙ ap₂ (λ a b. a + b) up.0.guards (many_guards ls rs (map (drop (length l.ports)) h) up.1) ∙ sym (delays_long l ls)

many_rests : (ls : List RepeaterLine) (rs : List RepeaterDevice) (h : List (List Sym)) → LinesUp ls rs h → length (flat_map (λ r. map (λ c. c.rest) r.counts) rs) ≡ length (delays ls)
many_rests [] [] h up = refl
many_rests [] (r ∷ rs) h up = absurd up
many_rests (l ∷ ls) [] h up = absurd up
many_rests (l ∷ ls) (r ∷ rs) h up =
    length-append (map (λ (c : Count). c.rest) r.counts) (flat_map (λ (x : RepeaterDevice). map (λ (c : Count). c.rest) x.counts) rs)
    ∙ ap₂ (λ a b. a + b) (length-map r.counts (λ (c : Count). c.rest) ∙ up.0.counts) (many_rests ls rs (map (drop (length l.ports)) h) up.1)
    ∙ sym (delays_long l ls)

-- captures for each station
many_tuned : (most : ℕ) (ss : List StationLine) (rs : List Receiving) → AreTuned most ss rs → length rs ≡ length ss
many_tuned most [] [] h = refl
many_tuned most [] (r ∷ rs) h = absurd h
many_tuned most (s ∷ ss) [] h = absurd h
many_tuned most (s ∷ ss) (r ∷ rs) h = ap suc (many_tuned most ss rs h.1)

length-receptions : (hs es : List Sym) (rs : List Receiving) → length rs ≤ length hs → length rs ≤ length es → length (receptions hs es rs) ≡ length rs
length-receptions [] es [] l m = refl
length-receptions [] es (r ∷ rs) l m = absurd (omega arith)
length-receptions (h ∷ hs) [] [] l m = refl
length-receptions (h ∷ hs) [] (r ∷ rs) l m = absurd (omega arith)
length-receptions (h ∷ hs) (e ∷ es) [] l m = refl
length-receptions (h ∷ hs) (e ∷ es) (r ∷ rs) l m = ap suc (length-receptions hs es rs (omega arith) (omega arith))

pub many_receptions : (plan : Plan) (t : ℕ) → length (receptions_in (net plan t)) ≡ length plan.layout.stations
many_receptions plan t =
    let n = net plan t in
    let rs = many_tuned (most_octets (eqb plan.layout.format 2)) plan.layout.stations n.receivers (tuned plan t) in
    let hear = many_hear plan t in
    let many = (shape_of plan t).senders in
    let emit = many_emit plan t in
    length-receptions (stations_hear n) (stations_emit n) n.receivers (omega (arith, rs, hear, many)) (omega (arith, rs, emit)) ∙ rs

length-captured : (t : ℕ) (es : List (Option Body)) (os : List (List ℕ)) (cs : List (List Taken)) → length es ≡ length cs → length os ≡ length cs → length (captured t es os cs) ≡ length cs
length-captured t [] [] [] l m = refl
length-captured t [] os (c ∷ cs) l m = absurd (omega arith)
length-captured t (e ∷ es) [] (c ∷ cs) l m = absurd (omega arith)
length-captured t [] (o ∷ os) [] l m = absurd (omega arith)
length-captured t (e ∷ es) os [] l m = absurd (omega arith)
length-captured t (e ∷ es) (o ∷ os) (c ∷ cs) l m = ap suc (length-captured t es os cs (omega arith) (omega arith))

pub many_captures : (plan : Plan) (t : ℕ) → length (net plan t).captures ≡ length plan.layout.stations
many_captures plan zero = length-map plan.layout.stations (λ (s : StationLine). [])
many_captures plan (suc t) =
    let n = net plan t in
    let before = many_captures plan t in
    let many = many_receptions plan t in
    length-captured n.t (map (λ (r : Reception). r.event) (receptions_in n)) (map (λ (r : Reception). r.octets) (receptions_in n)) n.captures
    (length-map (receptions_in n) (λ (r : Reception). r.event) ∙ many ∙ sym before) (length-map (receptions_in n) (λ (r : Reception). r.octets) ∙ many ∙ sym before)
    ∙ before

pub states_resumable : QuietStatesAreResumable
states_resumable plan t q =
    let n = net plan t in
    let within = q.within in
    let now = time_is plan t in
    let lines = (shape_of plan t).lines in
    record {
      within = omega (arith, within, now);
      senders = states_of_senders plan t q;
      guards_many = many_guards plan.layout.repeaters n.repeaters n.decided lines;
      guards = all_guards n.repeaters (kept plan t);
      rests_many = many_rests plan.layout.repeaters n.repeaters n.decided lines;
      rests = all_rests n.repeaters (kept plan t);
      captures_many = many_captures plan t;
    }
