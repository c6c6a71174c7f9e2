-- Stations that go on from a quiet half bit are as they were, but for what bears on nothing.
use Rattle.std.proofs.Common.{◌≡◌, ℕ, zero, suc, ◌+◌, ◌≤◌, ◌&&◌, Bool, true, false, cond, eqb, ltb, leb, All, Option, Some, None, List, [], ◌∷◌, map, length, length-take-le, refl, sym, ap, ap₂, ◌∙◌, arith}
use Rattle.std.proofs.lemmas.List.{length-map}
use Rattle.std.proofs.lemmas.List.Elements.{All-head, All-tail}
use Rattle.mac_parameters.specs.Parameters.{attempt_limit, most_octets}
use Rattle.manchester_line.specs.declared.Sym.{Sym}
use Rattle.manchester_line.specs.declared.Sym.TheVariants.{Idle, Hi, Lo, Clash}
use Rattle.manchester_line.specs.Line.{is_signal}
use Rattle.frame_layout.specs.declared.queue.Ready.{Ready}
use Rattle.layout.specs.declared.lines.StationLine.{StationLine}
use Rattle.load_plan.specs.declared.plan.Plan.{Plan}
use Rattle.mac_transmit.specs.declared.phase.Phase.{Phase}
use Rattle.mac_transmit.specs.declared.phase.Phase.TheVariants.{Rest, Waiting, Sending, Backoff}
use Rattle.mac_transmit.specs.Resuming.{state_of}
use Rattle.mac_transmit.specs.Sender.{Sender, SendOutcome, ready_at, sending_ended, has_ended, finished_from, finished, promoted_from, promoted, deferring, is_free, sending_started, emitting, after_turn, sender_step}
use Rattle.mac_receive.specs.Receiver.{Receiving, Reception, new_receiving, quiet, extended, reception_ended, receiver_step}
use Rattle.network.specs.Net.{net, sendings, receptions, sendings_in, stations_hear, stations_emit, heard_in, new_senders, new_net, new_receiver}
use Rattle.network.proofs.AbsoluteTimes.{heard_sizes}
use Rattle.network.proofs.StationAttempts.{shape_of, many_sendings}
use Rattle.quiet_state.specs.Quiet.{IsStill}
use Rattle.quiet_state.specs.Resumed.{resumed_senders}
use Rattle.quiet_state.proofs.BareSenders.{backed_off, bare_sender, frame_left}

-- what a sender has from its plan, and its time
pub record Owner : Type 0 where
  pub queue : List Ready
  pub seed : ℕ
  pub station : ℕ
  pub time : ℕ

abbrev pub owner : Sender → Owner
owner s = record { queue = s.queue; seed = s.draws.seed; station = s.draws.station; time = s.t }

either_owner : (b : Bool) (x y : Sender) (o : Owner) → owner x ≡ o → owner y ≡ o → owner (cond b x y) ≡ o
either_owner true x y o h k = h
either_owner false x y o h k = k

ended_owner : (s : Sender) (hit : Option ℕ) → owner (sending_ended s hit) ≡ owner s
ended_owner s None = refl
ended_owner s (Some hit) =
    either_owner (eqb s.attempt attempt_limit) (frame_left s) (backed_off s) (owner s) refl refl

finished_from_owner : (s : Sender) (p : Phase) → owner (finished_from s p) ≡ owner s
finished_from_owner s Rest = refl
finished_from_owner s Waiting = refl
finished_from_owner s (Backoff until) = refl
finished_from_owner s (Sending start hit) = either_owner (has_ended s start hit) (sending_ended s hit) s (owner s) (ended_owner s hit) refl

promoted_from_owner : (s : Sender) (p : Phase) → owner (promoted_from s p) ≡ owner s
promoted_from_owner s Rest =
    either_owner (ltb s.place (length s.queue) && leb (ready_at s.queue s.place) s.t) (record s { phase = Waiting; attempt = 1 }) s (owner s) refl refl
promoted_from_owner s Waiting = refl
promoted_from_owner s (Sending start hit) = refl
promoted_from_owner s (Backoff until) = either_owner (leb until s.t) (record s { phase = Waiting }) s (owner s) refl refl

finished_owner : (s : Sender) → owner (finished s) ≡ owner s
unfolding finished
finished_owner s = finished_from_owner s s.phase

promoted_owner : (s : Sender) → owner (promoted s) ≡ owner s
unfolding promoted
promoted_owner s = promoted_from_owner s s.phase

abbrev later : Owner → Owner
later o = record o { time = o.time + 1 }

turned_owner : (s : Sender) (c : Bool) → owner (emitting (after_turn s c) c) ≡ later (owner s)
unfolding emitting sending_started deferring is_free
turned_owner s c = refl

pub step_owner : (s : Sender) (h : Sym) → owner (sender_step s h).state ≡ later (owner s)
unfolding sender_step
step_owner s h = turned_owner (promoted (finished s)) (is_signal h) ∙ ap later (promoted_owner (finished s) ∙ finished_owner s)

-- the senders of the stations from k on, at half bit t
abbrev AreOwned : ℕ → ℕ → ℕ → List (List Ready) → List Sender → Type 0
AreOwned seed t k [] [] = Unit {0}
AreOwned seed t k (q ∷ qs) (s ∷ ss) = (owner s ≡ record { queue = q; seed = seed; station = k; time = t }) × AreOwned seed t (k + 1) qs ss
AreOwned seed t k _ _ = ⊥

new_owned : (seed k : ℕ) (qs : List (List Ready)) → AreOwned seed 0 k qs (new_senders seed k qs)
new_owned seed k [] = tt
new_owned seed k (q ∷ qs) = (refl, new_owned seed (k + 1) qs)

next_owned : (seed t u k : ℕ) (qs : List (List Ready)) (hs : List Sym) (ss : List Sender) → u ≡ t + 1 → length ss ≤ length hs → AreOwned seed t k qs ss → AreOwned seed u k qs (map (λ o. o.state) (sendings hs ss))
next_owned seed t u k [] [] [] e l h = tt
next_owned seed t u k [] (x ∷ hs) [] e l h = tt
next_owned seed t u k [] hs (s ∷ ss) e l h = absurd h
next_owned seed t u k (q ∷ qs) hs [] e l h = absurd h
next_owned seed t u k (q ∷ qs) [] (s ∷ ss) e l h = absurd (omega arith)
next_owned seed t u k (q ∷ qs) (x ∷ hs) (s ∷ ss) e l h = (
  step_owner s x ∙ ap later h.0 ∙ ap (λ v. (let o : Owner = record { queue = q; seed = seed; station = k; time = v } in o)) (sym e),
  next_owned seed t u (k + 1) qs hs ss e (omega arith) h.1,
)

pub many_hear : (plan : Plan) (t : ℕ) → length (stations_hear (net plan t)) ≡ length (net plan t).senders
many_hear plan t = length-take-le (length (net plan t).senders) (heard_in (net plan t)) (heard_sizes plan t (shape_of plan t)).0

owned : (plan : Plan) (t : ℕ) → AreOwned plan.layout.seed t 0 plan.queues (net plan t).senders
owned plan zero = new_owned plan.layout.seed 0 plan.queues
owned plan (suc t) =
    let n = net plan t in
    let many = many_hear plan t in
    next_owned plan.layout.seed t (suc t) 0 plan.queues (stations_hear n) n.senders (omega arith) (omega (arith, many)) (owned plan t)

-- a sender of this owner in the state of another, without what is kept for the laws alone
abbrev put_into : Sender → Owner → Sender
put_into s o = record s {
  queue = o.queue;
  draws = record { seed = o.seed; station = o.station; made = s.draws.made };
  t = o.time;
  last_end = None;
  carrier_from = 0;
}

resumed_alike : (seed t k : ℕ) (qs : List (List Ready)) (ss : List Sender) → AreOwned seed t k qs ss → map bare_sender ss ≡ map bare_sender (resumed_senders seed t k qs (map state_of ss))
resumed_alike seed t k [] [] h = refl
resumed_alike seed t k [] (s ∷ ss) h = absurd h
resumed_alike seed t k (q ∷ qs) [] h = absurd h
resumed_alike seed t k (q ∷ qs) (s ∷ ss) h =
    ap₂ (λ (x : Sender) xs. x ∷ xs) (ap (put_into s) h.0) (resumed_alike seed t (k + 1) qs ss h.1)

pub senders_resumed : (plan : Plan) (t : ℕ) → map bare_sender (net plan t).senders ≡ map bare_sender (resumed_senders plan.layout.seed t 0 plan.queues (map state_of (net plan t).senders))
senders_resumed plan t = resumed_alike plan.layout.seed t 0 plan.queues (net plan t).senders (owned plan t)

-- what a receiver has from its plan
pub record Tuning : Type 0 where
  pub lose : ℕ
  pub most : ℕ

abbrev pub tuning : Receiving → Tuning
tuning r = record { lose = r.lose; most = r.most }

either_tuning : (b : Bool) (x y : Reception) (o : Tuning) → tuning x.state ≡ o → tuning y.state ≡ o → tuning (cond b x y).state ≡ o
either_tuning true x y o h k = h
either_tuning false x y o h k = k

over_tuning : (r : Receiving) (hs : List Sym) → tuning (reception_ended r hs).state ≡ tuning r
over_tuning r [] = refl
over_tuning r (s ∷ ss) = refl

pub hear_tuning : (r : Receiving) (h : Sym) (b : Bool) → tuning (receiver_step r h b).state ≡ tuning r
hear_tuning r h true = refl
hear_tuning r Idle false = either_tuning r.deaf (quiet (record r { deaf = false; halves = [] })) (reception_ended r r.halves) (tuning r) refl (over_tuning r r.halves)
hear_tuning r Hi false = either_tuning r.deaf (quiet r) (extended r Hi) (tuning r) refl refl
hear_tuning r Lo false = either_tuning r.deaf (quiet r) (extended r Lo) (tuning r) refl refl
hear_tuning r Clash false = either_tuning r.deaf (quiet r) (extended r Clash) (tuning r) refl refl

abbrev pub AreTuned : ℕ → List StationLine → List Receiving → Type 0
AreTuned most [] [] = Unit {0}
AreTuned most (s ∷ ss) (r ∷ rs) = (tuning r ≡ record { lose = s.lose; most = most }) × AreTuned most ss rs
AreTuned most _ _ = ⊥

new_tuned : (most : ℕ) (ss : List StationLine) → AreTuned most ss (map (new_receiver most) ss)
new_tuned most [] = tt
new_tuned most (s ∷ ss) = (refl, new_tuned most ss)

next_tuned : (most : ℕ) (ss : List StationLine) (hs es : List Sym) (rs : List Receiving) → length ss ≤ length hs → length ss ≤ length es → AreTuned most ss rs → AreTuned most ss (map (λ r. r.state) (receptions hs es rs))
next_tuned most [] [] es [] l m h = tt
next_tuned most [] (x ∷ hs) [] [] l m h = tt
next_tuned most [] (x ∷ hs) (e ∷ es) [] l m h = tt
next_tuned most [] hs es (r ∷ rs) l m h = absurd h
next_tuned most (s ∷ ss) hs es [] l m h = absurd h
next_tuned most (s ∷ ss) [] es (r ∷ rs) l m h = absurd (omega arith)
next_tuned most (s ∷ ss) (x ∷ hs) [] (r ∷ rs) l m h = absurd (omega arith)
next_tuned most (s ∷ ss) (x ∷ hs) (e ∷ es) (r ∷ rs) l m h =
    (hear_tuning r x (is_signal e) ∙ h.0, next_tuned most ss hs es rs (omega arith) (omega arith) h.1)

pub many_emit : (plan : Plan) (t : ℕ) → length (stations_emit (net plan t)) ≡ length plan.layout.stations
many_emit plan t = length-map (sendings_in (net plan t)) (λ (o : SendOutcome). o.emitted) ∙ many_sendings plan t

pub tuned : (plan : Plan) (t : ℕ) → AreTuned (most_octets (eqb plan.layout.format 2)) plan.layout.stations (net plan t).receivers
tuned plan zero = new_tuned (most_octets (eqb plan.layout.format 2)) plan.layout.stations
tuned plan (suc t) =
    let n = net plan t in
    let hear = many_hear plan t in
    let many = (shape_of plan t).senders in
    let emit = many_emit plan t in
    next_tuned (most_octets (eqb plan.layout.format 2)) plan.layout.stations (stations_hear n) (stations_emit n) n.receivers (omega (arith, hear, many)) (omega (arith, emit)) (tuned plan t)

still_is_new : (r : Receiving) (lose most : ℕ) → IsStill r → tuning r ≡ record { lose = lose; most = most } → r ≡ new_receiving lose most
still_is_new r lose most h e =
    ap₂ (λ (b : Bool) (xs : List Sym). (let x : Receiving = record { lose = r.lose; most = r.most; deaf = b; halves = xs } in x)) h.awake h.no_reception
    ∙ ap (λ (o : Tuning). new_receiving o.lose o.most) e

receivers_new : (most : ℕ) (ss : List StationLine) (rs : List Receiving) → All IsStill rs → AreTuned most ss rs → rs ≡ map (new_receiver most) ss
receivers_new most [] [] a h = refl
receivers_new most [] (r ∷ rs) a h = absurd h
receivers_new most (s ∷ ss) [] a h = absurd h
receivers_new most (s ∷ ss) (r ∷ rs) a h =
    ap₂ (λ (x : Receiving) xs. x ∷ xs) (still_is_new r s.lose most (All-head IsStill r rs a) h.0) (receivers_new most ss rs (All-tail IsStill r rs a) h.1)

pub receivers_resumed : (plan : Plan) (t : ℕ) → All IsStill (net plan t).receivers → (net plan t).receivers ≡ (new_net plan).receivers
receivers_resumed plan t a = receivers_new (most_octets (eqb plan.layout.format 2)) plan.layout.stations (net plan t).receivers a (tuned plan t)
