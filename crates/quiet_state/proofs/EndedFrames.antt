-- The place of a sender tells the frames that it is done with.
use Rattle.std.proofs.Common.{◌≡◌, ℕ, zero, suc, ◌+◌, ◌&&◌, Bool, true, false, cond, eqb, ltb, leb, Option, Some, None, List, [], ◌∷◌, ◌++◌, length, refl, sym, ap, ◌∙◌, arith}
use Rattle.std.specs.List.{range_with_len}
use Rattle.std.proofs.lemmas.List.{append-nil}
use Rattle.mac_parameters.specs.Parameters.{attempt_limit}
use Rattle.manchester_line.specs.declared.Sym.{Sym}
use Rattle.manchester_line.specs.Line.{is_signal}
use Rattle.backoff_draw.specs.Draws.{draw_of}
use Rattle.collision_log.specs.declared.row.Body.{Body}
use Rattle.collision_log.specs.declared.row.Body.TheVariants.{Collided, GivenUp}
use Rattle.mac_transmit.specs.declared.phase.Phase.{Phase}
use Rattle.mac_transmit.specs.declared.phase.Phase.TheVariants.{Rest, Waiting, Sending, Backoff}
use Rattle.mac_transmit.specs.Sender.{Sender, after_turn, deferring, emitting, end_event, event_from, finished, finished_from, has_ended, is_free, promoted, promoted_from, ready_at, sender_step, sending_ended, sending_started}
use Rattle.quiet_state.proofs.BareSenders.{backed_off, frame_left}
use Rattle.quiet_state.proofs.ReceiverRanges.{ended_by, received_by}

-- the next number
from_last : (a n : ℕ) → range_with_len a (suc n) ≡ range_with_len a n ++ (a + n) ∷ []
from_last a zero = let same : a ≡ a + 0 = omega arith in ap (λ x. (let one : List ℕ = x ∷ [] in one)) same
from_last a (suc n) = let same : a + 1 + n ≡ a + suc n = omega arith in ap (λ xs. a ∷ xs) (from_last (a + 1) n ∙ ap (λ x. range_with_len (a + 1) n ++ x ∷ []) same)

next_frame : (n : ℕ) → range_with_len 1 (n + 1) ≡ range_with_len 1 n ++ (n + 1) ∷ []
next_frame n =
    let more : n + 1 ≡ suc n = omega arith in
    let last : 1 + n ≡ n + 1 = omega arith in
    ap (range_with_len 1) more ∙ from_last 1 n ∙ ap (λ x. range_with_len 1 n ++ x ∷ []) last

-- a sender that was at the first place and is at the second ended these frames
abbrev Ends : ℕ → ℕ → List ℕ → Type 0
Ends before now frames = range_with_len 1 now ≡ range_with_len 1 before ++ frames

none_ended : (place : ℕ) → Ends place place []
none_ended place = sym (append-nil (range_with_len 1 place))

either_ends : (b : Bool) (before : ℕ) (x y : Sender) (e f : Option Body) → Ends before x.place (ended_by e) → Ends before y.place (ended_by f) → Ends before (cond b x y).place (ended_by (cond b e f))
either_ends true before x y e f h k = h
either_ends false before x y e f h k = k

either_body : (b : Bool) (before : ℕ) (x y : Sender) (e f : Body) → Ends before x.place (ended_by (Some e)) → Ends before y.place (ended_by (Some f)) → Ends before (cond b x y).place (ended_by (Some (cond b e f)))
either_body true before x y e f h k = h
either_body false before x y e f h k = k

sending_ends : (s : Sender) (start : ℕ) (hit : Option ℕ) → Ends s.place (sending_ended s hit).place (ended_by (Some (end_event s start hit)))
sending_ends s start None = next_frame s.place
sending_ends s start (Some hit) =
    either_body (eqb s.attempt attempt_limit) s.place (frame_left s) (backed_off s)
    (GivenUp (s.place + 1) start hit)
    (Collided (s.place + 1) start s.attempt hit (draw_of s.draws.seed s.draws.station s.draws.made s.attempt))
    (next_frame s.place) (none_ended s.place)

finish_ends : (s : Sender) (p : Phase) → Ends s.place (finished_from s p).place (ended_by (event_from s p))
unfolding event_from
finish_ends s Rest = none_ended s.place
finish_ends s Waiting = none_ended s.place
finish_ends s (Backoff until) = none_ended s.place
finish_ends s (Sending start hit) =
    either_ends (has_ended s start hit) s.place (sending_ended s hit) s (Some (end_event s start hit)) None (sending_ends s start hit) (none_ended s.place)

either_place : (b : Bool) (x y : Sender) (n : ℕ) → x.place ≡ n → y.place ≡ n → (cond b x y).place ≡ n
either_place true x y n h k = h
either_place false x y n h k = k

promoted_place : (s : Sender) (p : Phase) → (promoted_from s p).place ≡ s.place
promoted_place s Rest = either_place (ltb s.place (length s.queue) && leb (ready_at s.queue s.place) s.t) (record s { phase = Waiting; attempt = 1 }) s s.place refl refl
promoted_place s Waiting = refl
promoted_place s (Sending start hit) = refl
promoted_place s (Backoff until) = either_place (leb until s.t) (record s { phase = Waiting }) s s.place refl refl

turned_place : (s : Sender) (c : Bool) → (emitting (after_turn s c) c).place ≡ s.place
unfolding emitting sending_started deferring is_free
turned_place s c = refl

waits_place : (s : Sender) → (promoted s).place ≡ s.place
unfolding promoted
waits_place s = promoted_place s s.phase

pub step_ends : (s : Sender) (h : Sym) → range_with_len 1 (sender_step s h).state.place ≡ range_with_len 1 s.place ++ ended_by (sender_step s h).event
unfolding sender_step finished
step_ends s h =
    ap (range_with_len 1) (turned_place (promoted (finished s)) (is_signal h) ∙ waits_place (finished s)) ∙ finish_ends s s.phase

-- a sender receives nothing
none_received : (t : ℕ) (s : Sender) (start : ℕ) (hit : Option ℕ) → received_by t (Some (end_event s start hit)) ≡ []
none_received t s start None = refl
none_received t s start (Some hit) =
    either (eqb s.attempt attempt_limit) (GivenUp (s.place + 1) start hit)
    (Collided (s.place + 1) start s.attempt hit (draw_of s.draws.seed s.draws.station s.draws.made s.attempt)) refl refl
  where
    either : (b : Bool) (x y : Body) → received_by t (Some x) ≡ [] → received_by t (Some y) ≡ [] → received_by t (Some (cond b x y)) ≡ []
    either true x y h k = h
    either false x y h k = k

no_reception : (t : ℕ) (s : Sender) (p : Phase) → received_by t (event_from s p) ≡ []
unfolding event_from
no_reception t s Rest = refl
no_reception t s Waiting = refl
no_reception t s (Backoff until) = refl
no_reception t s (Sending start hit) = either (has_ended s start hit) (Some (end_event s start hit)) None (none_received t s start hit) refl
  where
    either : (b : Bool) (x y : Option Body) → received_by t x ≡ [] → received_by t y ≡ [] → received_by t (cond b x y) ≡ []
    either true x y h k = h
    either false x y h k = k

pub step_receives : (t : ℕ) (s : Sender) (h : Sym) → received_by t (sender_step s h).event ≡ []
unfolding sender_step
step_receives t s h = no_reception t s s.phase
