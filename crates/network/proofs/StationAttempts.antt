-- Each station of a network is a sender that hears what its tap hears, and so its attempts keep what a sender promises.
use Rattle.std.proofs.Common.{◌≡◌, ℕ, zero, suc, ◌+◌, ◌<◌, ◌≤◌, List, [], ◌∷◌, length, length-take-le, get_or, get_or-take, refl, sym, subst, ap, ◌∙◌, arith}
use Rattle.std.specs.List.{flat_map}
use Rattle.std.proofs.lemmas.List.{length-map, get_or-map, get_or_append_left}
use Rattle.manchester_line.specs.declared.Sym.{Sym}
use Rattle.manchester_line.specs.declared.Sym.TheVariants.{Idle}
use Rattle.frame_layout.specs.declared.queue.Ready.{Ready}
use Rattle.load_plan.specs.declared.plan.Plan.{Plan}
use Rattle.mac_transmit.specs.Attempts as sender
use Rattle.mac_transmit.specs.Attempts.{Attempt, Finishes, IsLawful, run, emits}
use Rattle.mac_transmit.specs.Sender.{Sender, SendOutcome, new_sender, sender_step}
use Rattle.repeater_core.specs.Step.{emitted_by}
use Rattle.network.specs.Attempts.{sender_at}
use Rattle.network.specs.Net.{net, new_senders, heard_in, stations_hear, stations_emit, sendings, sendings_in}
use Rattle.network.specs.Signals.{StationAttemptsAreLawful}
use Rattle.network.specs.Times.{heard, emitted}
use Rattle.network.proofs.RunnablePlans.{runnable_plan}
use Rattle.network.proofs.DelayLines.{delayed_from_All}
use Rattle.network.proofs.AbsoluteTimes.{IsShaped, shaped, heard_sizes, sends_all}

-- the sender that stands for none, and what it sends
abbrev pub no_sender : Sender
no_sender = new_sender [] (record { seed = 0; station = 0; made = 0 })

abbrev pub no_sending : SendOutcome
no_sending = sender_step no_sender Idle

-- the sender of station k before half bit 0
abbrev pub first_sender : Plan → ℕ → Sender
first_sender plan k = new_sender (get_or plan.queues k []) (record { seed = plan.layout.seed; station = k; made = 0 })

pub shape_of : (plan : Plan) (t : ℕ) → IsShaped plan (net plan t)
shape_of plan t = shaped plan t (delayed_from_All plan.layout.repeaters (runnable_plan plan).some_delay)

new_sender_at : (seed k : ℕ) (qs : List (List Ready)) (i m : ℕ) (d : Sender) → i < length qs → m ≡ k + i →
    get_or (new_senders seed k qs) i d ≡ new_sender (get_or qs i []) (record { seed = seed; station = m; made = 0 })
new_sender_at seed k [] i m d h e = absurd (omega arith)
new_sender_at seed k (q ∷ qs) zero m d h e = let same : k ≡ m = omega arith in ap (λ j. new_sender q (record { seed = seed; station = j; made = 0 })) same
new_sender_at seed k (q ∷ qs) (suc i) m d h e = new_sender_at seed (k + 1) qs i m d (omega arith) (omega arith)

sending_at : (hs : List Sym) (ss : List Sender) (k : ℕ) (d : Sender) (o : SendOutcome) → k < length ss → k < length hs →
    get_or (sendings hs ss) k o ≡ sender_step (get_or ss k d) (get_or hs k Idle)
sending_at [] ss k d o l m = absurd (omega arith)
sending_at (h ∷ hs) [] k d o l m = absurd (omega arith)
sending_at (h ∷ hs) (s ∷ ss) zero d o l m = refl
sending_at (h ∷ hs) (s ∷ ss) (suc k) d o l m = sending_at hs ss k d o (omega arith) (omega arith)

-- what the sender of station k does in half bit t
pub sends_at : (plan : Plan) (k t : ℕ) (o : SendOutcome) → k < length plan.layout.stations → get_or (sendings_in (net plan t)) k o ≡ sender_step (sender_at plan k t) (heard plan k t)
sends_at plan k t o l =
    let n = net plan t in
    let shape = shape_of plan t in
    let many : length n.senders ≡ length plan.layout.stations = shape.senders in
    let fits : length n.senders ≤ length (heard_in n) = (heard_sizes plan t shape).0 in
    let cut : length (stations_hear n) ≡ length n.senders = length-take-le (length n.senders) (heard_in n) fits in
    sending_at (stations_hear n) n.senders k no_sender o (omega arith) (omega arith)
    ∙ ap (sender_step (sender_at plan k t)) (get_or-take (length n.senders) (heard_in n) k Idle (omega arith))

pub many_sendings : (plan : Plan) (t : ℕ) → length (sendings_in (net plan t)) ≡ length plan.layout.stations
many_sendings plan t = sends_all plan t (shape_of plan t) ∙ (shape_of plan t).senders

pub station_runs : (plan : Plan) (k t : ℕ) → k < length plan.layout.stations → sender_at plan k t ≡ run (first_sender plan k) (heard plan k) t
station_runs plan k zero l =
    let queued : length plan.queues ≡ length plan.layout.stations = plan.queued in
    new_sender_at plan.layout.seed 0 plan.queues k k no_sender (omega arith) (omega arith)
station_runs plan k (suc t) l =
    let many : length (sendings_in (net plan t)) ≡ length plan.layout.stations = many_sendings plan t in
    get_or-map (λ (o : SendOutcome). o.state) (sendings_in (net plan t)) k no_sending no_sender (omega arith)
    ∙ ap (λ (o : SendOutcome). o.state) (sends_at plan k t no_sending l)
    ∙ ap (λ s. (sender_step s (heard plan k t)).state) (station_runs plan k t l)

pub station_emits : (plan : Plan) (k t : ℕ) → k < length plan.layout.stations → emitted plan k t ≡ emits (first_sender plan k) (heard plan k) t
station_emits plan k t l =
    let n = net plan t in
    let many : length (sendings_in n) ≡ length plan.layout.stations = many_sendings plan t in
    let size : length (stations_emit n) ≡ length (sendings_in n) = length-map (sendings_in n) (λ (o : SendOutcome). o.emitted) in
    get_or_append_left (stations_emit n) (flat_map emitted_by n.repeaters) Idle k (omega arith)
    ∙ get_or-map (λ (o : SendOutcome). o.emitted) (sendings_in n) k no_sending Idle (omega arith)
    ∙ ap (λ (o : SendOutcome). o.emitted) (sends_at plan k t no_sending l)
    ∙ ap (λ s. (sender_step s (heard plan k t)).emitted) (station_runs plan k t l)

-- what is lawful stays so where the same is emitted
lawful_alike : (told told' heard : ℕ → Sym) (a : Attempt) → ((t : ℕ) → told' t ≡ told t) → IsLawful told heard a → IsLawful told' heard a
lawful_alike told told' heard a same l = record {
  long = l.long;
  goes_on = l.goes_on;
  busy = λ t in_it idle. l.busy t in_it (sym (same t) ∙ idle);
  heeds = l.heeds;
  deaf = l.deaf;
}

pub attempts_lawful : sender.AttemptsAreLawful → StationAttemptsAreLawful
attempts_lawful law plan frames k a is =
    let queued : length plan.queues ≡ length plan.layout.stations = plan.queued in
    let l : k < length plan.layout.stations = is.station in
    let ends : Finishes (run (first_sender plan k) (heard plan k) a.end) a = subst (λ s. Finishes s a) (station_runs plan k a.end l) is.finishes in
    lawful_alike (emits (first_sender plan k) (heard plan k)) (emitted plan k) (heard plan k) a (λ t. station_emits plan k t l)
    (law (get_or plan.queues k []) (frames k [] (omega arith)) (record { seed = plan.layout.seed; station = k; made = 0 }) (heard plan k) a ends)
