-- What a sender does names the frame at its place, counted from 1.
use Rattle.std.proofs.Common.{◌≡◌, ℕ, ◌+◌, ◌<◌, ◌≤◌, Bool, true, false, cond, eqb, Option, Some, None, length, refl, arith}
use Rattle.std.specs.Prelude.{IfSome}
use Rattle.std.proofs.lemmas.Bool.{cond_both}
use Rattle.manchester_line.specs.declared.Sym.{Sym}
use Rattle.collision_log.specs.declared.row.Body.{Body}
use Rattle.collision_log.specs.declared.row.Body.TheVariants.{Sent, Collided, GivenUp, Cut, Received, Dropped, Clash, Closed, Opened, Halted}
use Rattle.mac_transmit.specs.declared.phase.Phase.{Phase}
use Rattle.mac_transmit.specs.declared.phase.Phase.TheVariants.{Rest, Waiting, Sending, Backoff}
use Rattle.mac_transmit.specs.Sender.{Sender, cut_from, cut_of, end_event, event_from, has_ended, sender_step}
use Rattle.run_texts.proofs.EndedFrames.{ended_of, ends_by}
use Rattle.run_texts.proofs.PlacesInQueues.{IsStanding, Stands}
use Rattle.frame_table.specs.Histories.{frame_named}
use Rattle.frame_table.specs.Unplanned.{is_counted}
use Rattle.run_frames.proofs.FramelessRows.{NamesNoFrame, counted}

-- whether it ends frame n, as a number
abbrev pub ends_frame : ℕ → Body → ℕ
ends_frame n (Sent frame start attempt) = cond (eqb frame n) 1 0
ends_frame n (Collided frame start attempt hit drawn) = 0
ends_frame n (GivenUp frame start hit) = cond (eqb frame n) 1 0
ends_frame n (Cut frame start attempt hit) = cond (eqb frame n) 1 0
ends_frame n (Received octets) = 0
ends_frame n (Dropped why halves) = 0
ends_frame n Clash = 0
ends_frame n (Closed port) = 0
ends_frame n (Opened port) = 0
ends_frame n (Halted port) = 0

-- the same of what may happen
abbrev pub frame_ended : ℕ → Option Body → ℕ
frame_ended n None = 0
frame_ended n (Some body) = ends_frame n body

-- what names no frame ends none
pub frameless_ends : (n : ℕ) (b : Body) → NamesNoFrame b → ends_frame n b ≡ 0
frameless_ends n (Sent frame start attempt) h = absurd (cc)
frameless_ends n (Collided frame start attempt hit drawn) h = refl
frameless_ends n (GivenUp frame start hit) h = absurd (cc)
frameless_ends n (Cut frame start attempt hit) h = absurd (cc)
frameless_ends n (Received octets) h = refl
frameless_ends n (Dropped why halves) h = refl
frameless_ends n Clash h = refl
frameless_ends n (Closed port) h = refl
frameless_ends n (Opened port) h = refl
frameless_ends n (Halted port) h = refl

one_end : (b : Body) → ends_by b ≤ 1
one_end (Sent frame start attempt) = omega arith
one_end (Collided frame start attempt hit drawn) = omega arith
one_end (GivenUp frame start hit) = omega arith
one_end (Cut frame start attempt hit) = omega arith
one_end (Received octets) = omega arith
one_end (Dropped why halves) = omega arith
one_end Clash = omega arith
one_end (Closed port) = omega arith
one_end (Opened port) = omega arith
one_end (Halted port) = omega arith

-- of what may happen in a half bit at most one ends a frame
pub one_at_most : (e : Option Body) → ended_of e ≤ 1
one_at_most None = omega arith
one_at_most (Some b) = one_end b

-- ---- which frame ends

-- it ends the frame of this number, if any
abbrev IsOfFrame : ℕ → ℕ → Option Body → Type 0
IsOfFrame frame n e = frame_ended n e ≡ cond (eqb frame n) (ended_of e) 0

nothing : (same : Bool) → 0 ≡ cond {A = ℕ} same 0 0
nothing true = refl
nothing false = refl

last_or_not : (last : Bool) (frame n start attempt hit drawn : ℕ) → IsOfFrame frame n (Some (cond last (GivenUp frame start hit) (Collided frame start attempt hit drawn)))
last_or_not true frame n start attempt hit drawn = refl
last_or_not false frame n start attempt hit drawn = nothing (eqb frame n)

end_of_frame : (n : ℕ) (s : Sender) (start : ℕ) (hit : Option ℕ) → IsOfFrame (s.place + 1) n (Some (end_event s start hit))
end_of_frame n s start None = refl
end_of_frame n s start (Some hit) = last_or_not _ (s.place + 1) n start s.attempt hit _

event_of_frame : (n : ℕ) (s : Sender) (p : Phase) → IsOfFrame (s.place + 1) n (event_from s p)
unfolding event_from
event_of_frame n s Rest = nothing (eqb (s.place + 1) n)
event_of_frame n s Waiting = nothing (eqb (s.place + 1) n)
event_of_frame n s (Backoff until) = nothing (eqb (s.place + 1) n)
event_of_frame n s (Sending start hit) =
    cond_both (has_ended s start hit) (Some (end_event s start hit)) None (IsOfFrame (s.place + 1) n)
    (λ _. end_of_frame n s start hit) (λ _. nothing (eqb (s.place + 1) n))

-- the frame that ends is that of the sender's place
pub step_of_frame : (n : ℕ) (s : Sender) (heard : Sym) → frame_ended n (sender_step s heard).event ≡ cond (eqb (s.place + 1) n) (ended_of (sender_step s heard).event) 0
unfolding sender_step
step_of_frame n s heard = event_of_frame n s s.phase

cut_in_phase : (n : ℕ) (s : Sender) (p : Phase) → frame_ended n (cut_from s p) ≤ cond (eqb (s.place + 1) n) 1 0
cut_in_phase n s Rest = omega arith
cut_in_phase n s Waiting = omega arith
cut_in_phase n s (Backoff until) = omega arith
cut_in_phase n s (Sending start hit) = omega arith

-- and so is the frame that the end of the run cuts off
pub cut_of_frame : (n : ℕ) (s : Sender) → frame_ended n (cut_of s) ≤ cond (eqb (s.place + 1) n) 1 0
unfolding cut_of
cut_of_frame n s = cut_in_phase n s s.phase

-- ---- which frame is named

-- it names no frame, or one from 1 to so many
abbrev pub NamesOneOf : ℕ → Body → Type 0
NamesOneOf most b = is_counted most (frame_named b) ≡ true

last_named : (last : Bool) (most frame start attempt hit drawn : ℕ) → is_counted most (Some frame) ≡ true → NamesOneOf most (cond last (GivenUp frame start hit) (Collided frame start attempt hit drawn))
last_named true most frame start attempt hit drawn h = h
last_named false most frame start attempt hit drawn h = h

end_named : (s : Sender) (start : ℕ) (hit : Option ℕ) → s.place < length s.queue → NamesOneOf (length s.queue) (end_event s start hit)
end_named s start None lt = counted (length s.queue) (s.place + 1) (omega arith) (omega (arith, lt))
end_named s start (Some hit) lt = last_named _ (length s.queue) (s.place + 1) start s.attempt hit _ (counted (length s.queue) (s.place + 1) (omega arith) (omega (arith, lt)))

event_named : (s : Sender) (p : Phase) → Stands s.place (length s.queue) p → IfSome (event_from s p) (NamesOneOf (length s.queue))
unfolding event_from
event_named s Rest h = tt
event_named s Waiting h = tt
event_named s (Backoff until) h = tt
event_named s (Sending start hit) h =
    cond_both (has_ended s start hit) (Some (end_event s start hit)) None (λ (e : Option Body). IfSome e (NamesOneOf (length s.queue)))
    (λ _. end_named s start hit h) (λ _. tt)

-- a frame that is named is in the sender's queue
pub step_named : (s : Sender) (heard : Sym) → IsStanding s → IfSome (sender_step s heard).event (NamesOneOf (length s.queue))
unfolding sender_step
step_named s heard h = event_named s s.phase h

cut_named_from : (s : Sender) (p : Phase) → Stands s.place (length s.queue) p → IfSome (cut_from s p) (NamesOneOf (length s.queue))
cut_named_from s Rest h = tt
cut_named_from s Waiting h = tt
cut_named_from s (Backoff until) h = tt
cut_named_from s (Sending start hit) h = counted (length s.queue) (s.place + 1) (omega arith) (omega (arith, h))

pub cut_named : (s : Sender) → IsStanding s → IfSome (cut_of s) (NamesOneOf (length s.queue))
unfolding cut_of
cut_named s h = cut_named_from s s.phase h
