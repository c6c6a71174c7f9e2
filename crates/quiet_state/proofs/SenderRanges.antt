-- What the numbers of a sender keep half bit by half bit, and those of the rows that it gives.
use Rattle.std.proofs.Common.{◌≡◌, ℕ, zero, suc, ◌+◌, ◌-◌, ◌*◌, ◌%◌, ◌^◌, ◌<◌, ◌≤◌, ◌&&◌, Bool, true, false, not, eqb, ltb, leb, Option, Some, None, List, [], length, get_or, refl, sym, subst, arith}
use Rattle.std.specs.Prelude.{IfSome, if◌then◌else◌}
use Rattle.std.proofs.lemmas.Bool.{and_parts, ltb-true}
use Rattle.mac_parameters.specs.Parameters.{attempt_limit, interframe_gap, interframe_gap_part_1, slot_time, most_half_bits, last_backoff, most_draws}
use Rattle.manchester_line.specs.declared.Sym.{Sym}
use Rattle.manchester_line.specs.Line.{is_signal}
use Rattle.backoff_draw.specs.Draws.{draw_of}
use Rattle.frame_layout.specs.declared.queue.Ready.{Ready}
use Rattle.collision_log.specs.declared.row.Body.{Body}
use Rattle.load_plan.specs.declared.plan.Plan.{Plan}
use Rattle.mac_transmit.specs.declared.deference.Defer.{Defer}
use Rattle.mac_transmit.specs.declared.deference.Defer.TheVariants.{Watch, Busy, Gap}
use Rattle.mac_transmit.specs.declared.phase.Phase.{Phase}
use Rattle.mac_transmit.specs.declared.phase.Phase.TheVariants.{Rest, Waiting, Sending, Backoff}
use Rattle.mac_transmit.specs.Attempts.{run}
use Rattle.mac_transmit.specs.Deference.{deferred, watched}
use Rattle.mac_transmit.specs.Resuming.{IsDeferIn, IsPhaseIn, IsStateOf, state_of}
use Rattle.mac_transmit.specs.Sender.{Sender, before_emission, deferring, emitting, end_event, event_from, finished, finished_from, has_ended, hit_at, is_free, is_sending, is_waiting, new_sender, phase_after, phase_started, defer_started, promoted, promoted_from, ready_at, sender_step, sending_ended, sending_started}
use Rattle.mac_transmit.proofs.SenderInvariant.{choose, draw_below}
use Rattle.network.specs.Attempts.{sender_at}
use Rattle.network.specs.Times.{heard}
use Rattle.network.proofs.StationAttempts.{first_sender, station_runs}
use Rattle.quiet_state.specs.PlanStates.{HappensToStation}

-- A frame that waits or is under way is one of the queue, and a sending began by half bit t, and so did its hit.
abbrev pub HoldsFrame : ℕ → ℕ → ℕ → Phase → Type 0
HoldsFrame t place size Rest = Unit {0}
HoldsFrame t place size Waiting = place < size
HoldsFrame t place size (Sending start hit) = (place < size) × (start ≤ t) × IfSome hit (λ h. h ≤ t)
HoldsFrame t place size (Backoff until) = (place < size) × (until ≤ last_backoff)

-- a sender at half bit t that made at most m draws and holds no place after n
pub record IsInRange (t m : ℕ) (s : Sender) : Type 0 where
  pub time : s.t ≡ t
  pub place : s.place ≤ length s.queue
  pub first : 1 ≤ s.attempt
  pub last : s.attempt ≤ attempt_limit
  pub phase : HoldsFrame t s.place (length s.queue) s.phase
  pub defer : IsDeferIn s.defer
  pub drawn : s.draws.made ≤ m

more_draws : (t m : ℕ) (s : Sender) → IsInRange t m s → IsInRange t (m + 1) s
more_draws t m s h = let few = h.drawn in record { time = h.time; place = h.place; first = h.first; last = h.last; phase = h.phase; defer = h.defer; drawn = omega (arith, few) }

one_more : (n : ℕ) → n ≤ attempt_limit → eqb n attempt_limit ≡ false → n + 1 ≤ attempt_limit
one_more n h e = grind arith

at_most_one : (n : ℕ) → (n + 1) % 2 ^ 68 ≤ n + 1
at_most_one n = omega arith

backs_off : (t u seed station made attempt : ℕ) → u ≡ t → t ≤ most_half_bits → u + slot_time * draw_of seed station made attempt ≤ last_backoff
backs_off t u seed station made attempt e late = let few = draw_below seed station made attempt in omega (arith, few, late, e)

ended : (t m : ℕ) (s : Sender) (hit : Option ℕ) → t ≤ most_half_bits → s.place < length s.queue → IsInRange t m s → IsInRange t (m + 1) (sending_ended s hit)
ended t m s None late more h =
    let few = h.drawn in record { time = h.time; place = omega (arith, more); first = h.first; last = h.last; phase = tt; defer = h.defer; drawn = omega (arith, few) }
ended t m s (Some hit) late more h =
    let few = h.drawn in
    choose (IsInRange t (m + 1)) (eqb s.attempt attempt_limit) _ _
    (λ _. record { time = h.time; place = omega (arith, more); first = h.first; last = h.last; phase = tt; defer = h.defer; drawn = omega (arith, few) })
    (λ e. record {
      time = h.time;
      place = h.place;
      first = omega arith;
      last = one_more s.attempt h.last e;
      phase = (more, backs_off t s.t s.draws.seed s.draws.station s.draws.made s.attempt h.time late);
      defer = h.defer;
      drawn = (let one = at_most_one s.draws.made in omega (arith, few, one));
    })

finished_in : (t m : ℕ) (s : Sender) (p : Phase) → t ≤ most_half_bits → HoldsFrame t s.place (length s.queue) p → IsInRange t m s → IsInRange t (m + 1) (finished_from s p)
finished_in t m s Rest late f h = more_draws t m s h
finished_in t m s Waiting late f h = more_draws t m s h
finished_in t m s (Backoff until) late f h = more_draws t m s h
finished_in t m s (Sending start hit) late f h =
    choose (IsInRange t (m + 1)) (has_ended s start hit) (sending_ended s hit) s (λ _. ended t m s hit late f.0 h) (λ _. more_draws t m s h)

waits : (t m : ℕ) (s : Sender) (attempt : ℕ) → s.place < length s.queue → 1 ≤ attempt → attempt ≤ attempt_limit → IsInRange t m s → IsInRange t m (record s { phase = Waiting; attempt = attempt })
waits t m s attempt more some few h = record { time = h.time; place = h.place; first = some; last = few; phase = more; defer = h.defer; drawn = h.drawn }

promoted_in : (t m : ℕ) (s : Sender) (p : Phase) → HoldsFrame t s.place (length s.queue) p → IsInRange t m s → IsInRange t m (promoted_from s p)
promoted_in t m s Rest f h =
    choose (IsInRange t m) (ltb s.place (length s.queue) && leb (ready_at s.queue s.place) s.t) _ s
    (λ e. waits t m s 1 (ltb-true s.place (length s.queue) (and_parts (ltb s.place (length s.queue)) (leb (ready_at s.queue s.place) s.t) e).0) (omega arith) (omega arith) h) (λ _. h)
promoted_in t m s Waiting f h = h
promoted_in t m s (Sending start hit) f h = h
promoted_in t m s (Backoff until) f h = choose (IsInRange t m) _ _ s (λ _. waits t m s s.attempt f.0 h.first h.last h) (λ _. h)

watched_in : (c : Bool) → IsDeferIn (watched c)
watched_in true = tt
watched_in false = tt

defer_in : (d : Defer) (c x w : Bool) → IsDeferIn d → IsDeferIn (deferred d c x w)
defer_in Watch c x w h = watched_in c
defer_in (Busy was) true x w h = tt
defer_in (Busy was) false true w h = tt
defer_in (Busy was) false false w h = (omega arith, omega arith)
defer_in (Gap k was) c x w h =
    choose IsDeferIn (eqb k interframe_gap) (if w then Watch else watched c) (if ltb k interframe_gap_part_1 && (not was && c) then Busy false else Gap (k + 1) was)
    (λ _. choose IsDeferIn w Watch (watched c) (λ _. tt) (λ _. watched_in c))
    (λ e. choose IsDeferIn (ltb k interframe_gap_part_1 && (not was && c)) (Busy false) (Gap (k + 1) was) (λ _. tt) (λ _. (omega arith, less k h.1 e)))
  where
    less : (k : ℕ) → k ≤ interframe_gap → eqb k interframe_gap ≡ false → k + 1 ≤ interframe_gap
    less k h e = grind arith

deferring_in : (t m : ℕ) (s : Sender) (c : Bool) → IsInRange t m s → IsInRange t m (deferring s c)
unfolding deferring
deferring_in t m s c h = record {
  time = h.time;
  place = h.place;
  first = h.first;
  last = h.last;
  phase = h.phase;
  defer = defer_in s.defer c (is_sending s.phase) (is_waiting s.phase) h.defer;
  drawn = h.drawn;
}

starts : (t u place size : ℕ) (p : Phase) (free : Bool) → u ≡ t → HoldsFrame t place size p → HoldsFrame t place size (phase_started u p free)
starts t u place size Waiting true e h = (h, omega (arith, e), tt)
starts t u place size Waiting false e h = h
starts t u place size Rest free e h = h
starts t u place size (Sending start hit) free e h = h
starts t u place size (Backoff until) free e h = h

start_defers : (p : Phase) (free : Bool) (d : Defer) → IsDeferIn d → IsDeferIn (defer_started p free d)
start_defers Waiting true d h = tt
start_defers Waiting false d h = h
start_defers Rest free d h = h
start_defers (Sending start hit) free d h = h
start_defers (Backoff until) free d h = h

started_in : (t m : ℕ) (s : Sender) (free : Bool) → IsInRange t m s → IsInRange t m (sending_started s free)
unfolding sending_started
started_in t m s free h = record {
  time = h.time;
  place = h.place;
  first = h.first;
  last = h.last;
  phase = starts t s.t s.place (length s.queue) s.phase free h.time h.phase;
  defer = start_defers s.phase free s.defer h.defer;
  drawn = h.drawn;
}

hit_begun : (t u start : ℕ) (hit : Option ℕ) (c : Bool) → u ≡ t → IfSome hit (λ h. h ≤ t) → IfSome (hit_at hit c (u - start)) (λ h. h ≤ t + 1)
hit_begun t u start None true e h = omega (arith, e)
hit_begun t u start None false e h = tt
hit_begun t u start (Some n) true e h = omega (arith, h)
hit_begun t u start (Some n) false e h = omega (arith, h)

goes_on : (t u place size : ℕ) (p : Phase) (c : Bool) → u ≡ t → HoldsFrame t place size p → HoldsFrame (t + 1) place size (phase_after u p c)
goes_on t u place size (Sending start hit) c e h = (h.0, omega (arith, h.1), hit_begun t u start hit c e h.2)
goes_on t u place size Rest c e h = tt
goes_on t u place size Waiting c e h = h
goes_on t u place size (Backoff until) c e h = h

emitted_after : (t m : ℕ) (s : Sender) (c : Bool) → IsInRange t m s → IsInRange (t + 1) m (emitting s c)
unfolding emitting
emitted_after t m s c h = record {
  time = (let now = h.time in omega (arith, now));
  place = h.place;
  first = h.first;
  last = h.last;
  phase = goes_on t s.t s.place (length s.queue) s.phase c h.time h.phase;
  defer = h.defer;
  drawn = h.drawn;
}

turned_in : (t m : ℕ) (s : Sender) (c : Bool) → t ≤ most_half_bits → IsInRange t m s → IsInRange t (m + 1) (before_emission s c)
unfolding finished promoted
turned_in t m s c late h =
    let f : IsInRange t (m + 1) (finished s) = finished_in t m s s.phase late h.phase h in
    let p : IsInRange t (m + 1) (promoted (finished s)) = promoted_in t (m + 1) (finished s) (finished s).phase f.phase f in
    started_in t (m + 1) (deferring (promoted (finished s)) c) (is_free (promoted (finished s)) c) (deferring_in t (m + 1) (promoted (finished s)) c p)

pub sender_goes_on : (t m : ℕ) (s : Sender) (h : Sym) → t ≤ most_half_bits → IsInRange t m s → IsInRange (t + 1) (m + 1) (sender_step s h).state
unfolding sender_step
sender_goes_on t m s h late r = emitted_after t (m + 1) (before_emission s (is_signal h)) (is_signal h) (turned_in t m s (is_signal h) late r)

pub new_in_range : (q : List Ready) (seed station : ℕ) → IsInRange 0 0 (new_sender q (record { seed = seed; station = station; made = 0 }))
new_in_range q seed station = record { time = refl; place = omega arith; first = omega arith; last = omega arith; phase = tt; defer = tt; drawn = omega arith }

-- from here on of half bit t alone
pub run_in_range : (s : Sender) (heard : ℕ → Sym) (t : ℕ) → t ≤ most_half_bits + 1 → IsInRange 0 0 s → IsInRange t t (run s heard t)
run_in_range s heard zero late h = h
run_in_range s heard (suc t) late h =
    let next : t + 1 ≡ suc t = omega arith in
    subst (λ u. IsInRange u u (run s heard (suc t))) next (sender_goes_on t t (run s heard t) (heard t) (omega arith) (run_in_range s heard t (omega arith) h))

-- the states from which senders go on
phase_is_in : (t : ℕ) (q : List Ready) (place : ℕ) (p : Phase) → is_sending p ≡ false → HoldsFrame t place (length q) p → IsPhaseIn q place p
phase_is_in t q place Rest e h = tt
phase_is_in t q place Waiting e h = h
phase_is_in t q place (Sending start hit) e h = absurd (cc)
phase_is_in t q place (Backoff until) e h = h

pub resumable_sender : (t m : ℕ) (s : Sender) → m ≤ most_draws → is_sending s.phase ≡ false → IsInRange t m s → IsStateOf s.queue (state_of s)
resumable_sender t m s few e h = record {
  place = h.place;
  phase = phase_is_in t s.queue s.place s.phase e h.phase;
  defer = h.defer;
  first = h.first;
  last = h.last;
  drawn = (let d = h.drawn in omega (arith, d, few));
}

-- the rows that senders give
end_happens : (t m most : ℕ) (s : Sender) (start : ℕ) (hit : Option ℕ) → t ≤ most_half_bits → s.place < length s.queue → start ≤ t → IfSome hit (λ h. h ≤ t) → IsInRange t m s → HappensToStation (length s.queue) most t (end_event s start hit)
end_happens t m most s start None late more began hits h = record { first = omega arith; last = omega (arith, more); began = began; once = h.first; limit = h.last }
end_happens t m most s start (Some hit) late more began hits h =
    choose (HappensToStation (length s.queue) most t) (eqb s.attempt attempt_limit) _ _
    (λ _. (record { first = omega arith; last = omega (arith, more); began = began; once = omega arith; limit = omega arith }, omega (arith, hits, late)))
    (λ _. (record { first = omega arith; last = omega (arith, more); began = began; once = h.first; limit = h.last }, omega (arith, hits, late), draw_below s.draws.seed s.draws.station s.draws.made s.attempt))

event_happens_from : (t m most : ℕ) (s : Sender) (p : Phase) → t ≤ most_half_bits → HoldsFrame t s.place (length s.queue) p → IsInRange t m s → IfSome (event_from s p) (HappensToStation (length s.queue) most t)
unfolding event_from
event_happens_from t m most s Rest late f h = tt
event_happens_from t m most s Waiting late f h = tt
event_happens_from t m most s (Backoff until) late f h = tt
event_happens_from t m most s (Sending start hit) late f h =
    choose (λ (e : Option Body). IfSome e (HappensToStation (length s.queue) most t)) (has_ended s start hit) (Some (end_event s start hit)) None
    (λ _. end_happens t m most s start hit late f.0 f.1 f.2 h) (λ _. tt)

pub event_happens : (t m most : ℕ) (s : Sender) (h : Sym) → t ≤ most_half_bits → IsInRange t m s → IfSome (sender_step s h).event (HappensToStation (length s.queue) most t)
unfolding sender_step
event_happens t m most s h late r = event_happens_from t m most s s.phase late r.phase r

-- the station's sender in the network
pub sender_in_range : (plan : Plan) (k t : ℕ) → k < length plan.layout.stations → t ≤ most_half_bits + 1 → IsInRange t t (sender_at plan k t)
sender_in_range plan k t l late =
    subst (IsInRange t t) (sym (station_runs plan k t l)) (run_in_range (first_sender plan k) (heard plan k) t late (new_in_range (get_or plan.queues k []) plan.layout.seed k))
