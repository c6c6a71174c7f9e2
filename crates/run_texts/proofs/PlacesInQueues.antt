-- A sender's place in its queue rises by the frames that end.
use Rattle.std.proofs.Common.{◌≡◌, ℕ, ◌+◌, ◌*◌, ◌<◌, ◌≤◌, Bool, true, false, cond, ltb, leb, eqb, ◌&&◌, Option, Some, None, length, refl, ◌∙◌, arith}
use Rattle.std.proofs.lemmas.Bool.{and_parts, ltb-true}
use Rattle.mac_parameters.specs.Parameters.{slot_time}
use Rattle.backoff_draw.specs.Draws.{draw_of, drawn}
use Rattle.manchester_line.specs.declared.Sym.{Sym}
use Rattle.collision_log.specs.declared.row.Body.TheVariants.{Collided, GivenUp}
use Rattle.mac_transmit.specs.declared.phase.Phase.{Phase}
use Rattle.mac_transmit.specs.declared.phase.Phase.TheVariants.{Rest, Waiting, Sending, Backoff}
use Rattle.mac_transmit.specs.Sender.{Sender, deferring, emitting, end_event, sending_ended, event_from, finished, finished_from, has_ended, is_free, phase_after, phase_started, promoted, promoted_from, ready_at, sender_step, sending_started}
use Rattle.manchester_line.specs.Line.{is_signal}
use Rattle.run_texts.proofs.EndedFrames.{ended_of, ends_by}

-- a frame that is under way, or waits, is in the queue
abbrev pub Stands : ℕ → ℕ → Phase → Type 0
Stands place size Rest = place ≤ size
Stands place size Waiting = place < size
Stands place size (Sending start hit) = place < size
Stands place size (Backoff until) = place < size

abbrev pub IsStanding : Sender → Type 0
IsStanding s = Stands s.place (length s.queue) s.phase

pub place_within : (place size : ℕ) (p : Phase) → Stands place size p → place ≤ size
place_within place size Rest h = h
place_within place size Waiting h = omega arith
place_within place size (Sending start hit) h = omega arith
place_within place size (Backoff until) h = omega arith

-- the queue stays, and the place rises by n
pub record Rises (s : Sender) (n : ℕ) (r : Sender) : Type 0 where
  pub queue : r.queue ≡ s.queue
  pub place : r.place ≡ s.place + n
  pub stands : IsStanding r

stays : (s : Sender) → IsStanding s → Rises s 0 s
stays s h = record { queue = refl; place = omega arith; stands = h }

give_up_or_wait : (last : Bool) (s : Sender) (start hit : ℕ) → s.place < length s.queue
    → Rises s (ends_by (cond last (GivenUp (s.place + 1) start hit) (Collided (s.place + 1) start s.attempt hit (draw_of s.draws.seed s.draws.station s.draws.made s.attempt))))
    (cond last (record s { place = s.place + 1; phase = Rest; last_end = Some s.t }) (record s {
      phase = Backoff (s.t + slot_time * draw_of s.draws.seed s.draws.station s.draws.made s.attempt);
      attempt = s.attempt + 1;
      draws = drawn s.draws;
      last_end = Some s.t;
    }))
give_up_or_wait true s start hit lt = record { queue = refl; place = refl; stands = omega arith }
give_up_or_wait false s start hit lt = record { queue = refl; place = omega arith; stands = lt }

finish_if : (over : Bool) (s : Sender) (start : ℕ) (hit : Option ℕ) → s.place < length s.queue → IsStanding s
    → Rises s (ended_of (cond over (Some (end_event s start hit)) None)) (cond over (sending_ended s hit) s)
finish_if true s start None lt h = record { queue = refl; place = refl; stands = omega arith }
finish_if true s start (Some hit) lt h = give_up_or_wait (eqb s.attempt 16) s start hit lt
finish_if false s start hit lt h = stays s h

finish_from : (s : Sender) (p : Phase) → Stands s.place (length s.queue) p → IsStanding s → Rises s (ended_of (event_from s p)) (finished_from s p)
unfolding event_from
finish_from s Rest h now = stays s now
finish_from s Waiting h now = stays s now
finish_from s (Backoff until) h now = stays s now
finish_from s (Sending start hit) h now = finish_if (has_ended s start hit) s start hit h now

finishes : (s : Sender) → IsStanding s → Rises s (ended_of (event_from s s.phase)) (finished s)
unfolding finished
finishes s h = finish_from s s.phase h h

promote_from : (s : Sender) (p : Phase) → Stands s.place (length s.queue) p → IsStanding s → Rises s 0 (promoted_from s p)
promote_from s Waiting h now = stays s now
promote_from s (Sending start hit) h now = stays s now
promote_from s Rest h now = ready (ltb s.place (length s.queue) && leb (ready_at s.queue s.place) s.t) s (λ e. ltb-true _ _ (and_parts _ _ e).0) now
  where
    ready : (so : Bool) (s : Sender) → (so ≡ true → s.place < length s.queue) → IsStanding s → Rises s 0 (cond so (record s { phase = Waiting; attempt = 1 }) s)
    ready true s lt now = record { queue = refl; place = omega arith; stands = lt refl }
    ready false s lt now = stays s now
promote_from s (Backoff until) h now = over (leb until s.t) s h now
  where
    over : (so : Bool) (s : Sender) → s.place < length s.queue → IsStanding s → Rises s 0 (cond so (record s { phase = Waiting }) s)
    over true s lt now = record { queue = refl; place = omega arith; stands = lt }
    over false s lt now = stays s now

promotes : (s : Sender) → IsStanding s → Rises s 0 (promoted s)
unfolding promoted
promotes s h = promote_from s s.phase h h

defers : (s : Sender) (c : Bool) → IsStanding s → Rises s 0 (deferring s c)
unfolding deferring
defers s c h = record { queue = refl; place = omega arith; stands = h }

phase_starts : (place size t : ℕ) (p : Phase) (free : Bool) → Stands place size p → Stands place size (phase_started t p free)
phase_starts place size t Rest true h = h
phase_starts place size t Rest false h = h
phase_starts place size t Waiting true h = h
phase_starts place size t Waiting false h = h
phase_starts place size t (Sending start hit) true h = h
phase_starts place size t (Sending start hit) false h = h
phase_starts place size t (Backoff until) true h = h
phase_starts place size t (Backoff until) false h = h

starts : (s : Sender) (free : Bool) → IsStanding s → Rises s 0 (sending_started s free)
unfolding sending_started
starts s free h = record { queue = refl; place = omega arith; stands = phase_starts s.place (length s.queue) s.t s.phase free h }

phase_emits : (place size t : ℕ) (p : Phase) (c : Bool) → Stands place size p → Stands place size (phase_after t p c)
phase_emits place size t Rest c h = h
phase_emits place size t Waiting c h = h
phase_emits place size t (Sending start hit) c h = h
phase_emits place size t (Backoff until) c h = h

emits : (s : Sender) (c : Bool) → IsStanding s → Rises s 0 (emitting s c)
unfolding emitting
emits s c h = record { queue = refl; place = omega arith; stands = phase_emits s.place (length s.queue) s.t s.phase c h }

then_stays : (s a b : Sender) (n : ℕ) → Rises s n a → Rises a 0 b → Rises s n b
then_stays s a b n first more = record { queue = more.queue ∙ first.queue; place = omega (arith, first.place, more.place); stands = more.stands }

-- one half bit of a sender
pub sender_rises : (s : Sender) (heard : Sym) → IsStanding s → Rises s (ended_of (sender_step s heard).event) (sender_step s heard).state
unfolding sender_step
sender_rises s heard h =
    let c = is_signal heard in
    let n = ended_of (event_from s s.phase) in
    let f = finished s in
    let p = promoted f in
    let d = deferring p c in
    let b = sending_started d (is_free p c) in
    let r1 : Rises s n f = finishes s h in
    let r2 : Rises s n p = then_stays s f p n r1 (promotes f r1.stands) in
    let r3 : Rises s n d = then_stays s p d n r2 (defers p c r2.stands) in
    let r4 : Rises s n b = then_stays s d b n r3 (starts d (is_free p c) r3.stands) in
    then_stays s b (emitting b c) n r4 (emits b c r4.stands)
