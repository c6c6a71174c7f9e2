-- The sender of a station in the run of a plan: its place rises by the frames that end.
use Rattle.std.proofs.Common.{◌≡◌, ℕ, zero, suc, ◌+◌, ◌<◌, ◌≤◌, Option, None, List, [], map, length, get_or, refl, sym, ap, subst, ◌∙◌, arith}
use Rattle.std.specs.Prelude.{IfSome}
use Rattle.std.proofs.lemmas.List.{get_or-map, get_or_past, length-map}
use Rattle.manchester_line.specs.declared.Sym.{Sym}
use Rattle.frame_layout.specs.declared.queue.Ready.{Ready}
use Rattle.backoff_draw.specs.Draws.{Drawing}
use Rattle.collision_log.specs.declared.row.Body.{Body}
use Rattle.load_plan.specs.declared.plan.Plan.{Plan}
use Rattle.mac_transmit.specs.Attempts.{run}
use Rattle.mac_transmit.specs.Sender.{Sender, SendOutcome, cut_of, new_sender, sender_step}
use Rattle.network.specs.Attempts.{sender_at}
use Rattle.network.specs.Net.{net, sendings_in}
use Rattle.network.specs.Times.{heard}
use Rattle.network.proofs.StationAttempts.{many_sendings, no_sender, no_sending, sends_at, shape_of, station_runs}
use Rattle.run_texts.proofs.EndedFrames.{ended_of}
use Rattle.run_texts.proofs.PlacesInQueues.{IsStanding, sender_rises}
use Rattle.run_frames.proofs.NumberedFrames.{NamesOneOf, cut_named, step_named}

run_stands : (queue : List Ready) (draws : Drawing) (hears : ℕ → Sym) (t : ℕ) → IsStanding (run (new_sender queue draws) hears t)
run_stands queue draws hears zero = omega arith
run_stands queue draws hears (suc t) = (sender_rises (run (new_sender queue draws) hears t) (hears t) (run_stands queue draws hears t)).stands

run_queue : (queue : List Ready) (draws : Drawing) (hears : ℕ → Sym) (t : ℕ) → (run (new_sender queue draws) hears t).queue ≡ queue
run_queue queue draws hears zero = refl
run_queue queue draws hears (suc t) = (sender_rises (run (new_sender queue draws) hears t) (hears t) (run_stands queue draws hears t)).queue ∙ run_queue queue draws hears t

pub stands_at : (plan : Plan) (k t : ℕ) → k < length plan.layout.stations → IsStanding (sender_at plan k t)
stands_at plan k t l =
    subst IsStanding (sym (station_runs plan k t l)) (run_stands (get_or plan.queues k []) (record { seed = plan.layout.seed; station = k; made = 0 }) (heard plan k) t)

queue_at : (plan : Plan) (k t : ℕ) → k < length plan.layout.stations → (sender_at plan k t).queue ≡ get_or plan.queues k []
queue_at plan k t l =
    ap (λ (s : Sender). s.queue) (station_runs plan k t l) ∙ run_queue (get_or plan.queues k []) (record { seed = plan.layout.seed; station = k; made = 0 }) (heard plan k) t

-- what the sender of station k does in half bit t
abbrev pub events_in : Plan → ℕ → List (Option Body)
events_in plan t = map (λ (o : SendOutcome). o.event) (sendings_in (net plan t))

abbrev pub event_in : Plan → ℕ → ℕ → Option Body
event_in plan k t = (sender_step (sender_at plan k t) (heard plan k t)).event

pub event_at : (plan : Plan) (k t : ℕ) → k < length plan.layout.stations → get_or (events_in plan t) k None ≡ event_in plan k t
event_at plan k t l =
    let many : length (sendings_in (net plan t)) ≡ length plan.layout.stations = many_sendings plan t in
    get_or-map (λ (o : SendOutcome). o.event) (sendings_in (net plan t)) k no_sending None (omega (arith, l, many))
    ∙ ap (λ (o : SendOutcome). o.event) (sends_at plan k t no_sending l)

pub no_event_past : (plan : Plan) (k t : ℕ) → length plan.layout.stations ≤ k → get_or (events_in plan t) k None ≡ None
no_event_past plan k t le =
    let many : length (sendings_in (net plan t)) ≡ length plan.layout.stations = many_sendings plan t in
    get_or_past (events_in plan t) k None (omega (arith, le, many, length-map (sendings_in (net plan t)) (λ (o : SendOutcome). o.event)))

pub place_next : (plan : Plan) (k t : ℕ) → k < length plan.layout.stations → (sender_at plan k (suc t)).place ≡ (sender_at plan k t).place + ended_of (event_in plan k t)
place_next plan k t l =
    let many : length (sendings_in (net plan t)) ≡ length plan.layout.stations = many_sendings plan t in
    ap (λ (s : Sender). s.place) (get_or-map (λ (o : SendOutcome). o.state) (sendings_in (net plan t)) k no_sending no_sender (omega (arith, l, many)))
    ∙ ap (λ (o : SendOutcome). o.state.place) (sends_at plan k t no_sending l)
    ∙ (sender_rises (sender_at plan k t) (heard plan k t) (stands_at plan k t l)).place

-- what the end of the run cuts off
abbrev pub cuts_in : Plan → ℕ → List (Option Body)
cuts_in plan t = map cut_of (net plan t).senders

pub cut_at : (plan : Plan) (k t : ℕ) → k < length plan.layout.stations → get_or (cuts_in plan t) k None ≡ cut_of (sender_at plan k t)
cut_at plan k t l = get_or-map cut_of (net plan t).senders k no_sender None (omega (arith, l, (shape_of plan t).senders))

pub no_cut_past : (plan : Plan) (k t : ℕ) → length plan.layout.stations ≤ k → get_or (cuts_in plan t) k None ≡ None
no_cut_past plan k t le = get_or_past (cuts_in plan t) k None (omega (arith, le, (shape_of plan t).senders, length-map (net plan t).senders cut_of))

-- each frame that is named is in the station's queue
pub event_in_queue : (plan : Plan) (k t : ℕ) → k < length plan.layout.stations → IfSome (get_or (events_in plan t) k None) (NamesOneOf (length (get_or plan.queues k [])))
event_in_queue plan k t l =
    subst (λ (q : List Ready). IfSome (get_or (events_in plan t) k None) (NamesOneOf (length q))) (queue_at plan k t l)
    (subst (λ (e : Option Body). IfSome e (NamesOneOf (length (sender_at plan k t).queue))) (sym (event_at plan k t l)) (step_named (sender_at plan k t) (heard plan k t) (stands_at plan k t l)))

pub cut_in_queue : (plan : Plan) (k t : ℕ) → k < length plan.layout.stations → IfSome (get_or (cuts_in plan t) k None) (NamesOneOf (length (get_or plan.queues k [])))
cut_in_queue plan k t l =
    subst (λ (q : List Ready). IfSome (get_or (cuts_in plan t) k None) (NamesOneOf (length q))) (queue_at plan k t l)
    (subst (λ (e : Option Body). IfSome e (NamesOneOf (length (sender_at plan k t).queue))) (sym (cut_at plan k t l)) (cut_named (sender_at plan k t) (stands_at plan k t l)))
