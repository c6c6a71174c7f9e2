-- What a sender keeps for its laws alone, when its last sending ended and since when it had carrier, bears on nothing
-- that it does.
use Rattle.std.proofs.Common.{◌≡◌, ℕ, ◌+◌, ◌*◌, ◌&&◌, Bool, true, false, cond, eqb, ltb, leb, Option, Some, None, List, [], ◌∷◌, ◌++◌, map, length, refl, sym, ap, ap₂, ◌∙◌}
use Rattle.mac_parameters.specs.Parameters.{attempt_limit, slot_time}
use Rattle.manchester_line.specs.declared.Sym.{Sym}
use Rattle.manchester_line.specs.Line.{is_signal}
use Rattle.backoff_draw.specs.Draws.{draw_of, drawn}
use Rattle.collision_log.specs.declared.row.Row.{Row}
use Rattle.mac_transmit.specs.declared.phase.Phase.{Phase}
use Rattle.mac_transmit.specs.declared.phase.Phase.TheVariants.{Rest, Waiting, Sending, Backoff}
use Rattle.mac_transmit.specs.Sender.{Sender, SendOutcome, ready_at, sending_ended, has_ended, finished_from, finished, event_from, promoted_from, promoted, deferring, is_free, sending_started, symbol_emitted, emitted_from, emitting, after_turn, sender_step, cut_from, cut_of}
use Rattle.network.specs.Net.{sendings}
use Rattle.network.specs.Outputs.{cut_rows}
use Rattle.network.specs.Rows.{row_of}

-- a sender without what it keeps for its laws alone
abbrev pub bare_sender : Sender → Sender
bare_sender s = record s { last_end = None; carrier_from = 0 }

either_bare : (b : Bool) (x y u v : Sender) → bare_sender x ≡ bare_sender u → bare_sender y ≡ bare_sender v → bare_sender (cond b x y) ≡ bare_sender (cond b u v)
either_bare true x y u v h k = h
either_bare false x y u v h k = k

-- a sender whose frame is behind it, and one that sends its frame again
abbrev pub frame_left : Sender → Sender
frame_left s = record s { place = s.place + 1; phase = Rest; last_end = Some s.t }

abbrev pub backed_off : Sender → Sender
backed_off s = record s {
  phase = Backoff (s.t + slot_time * draw_of s.draws.seed s.draws.station s.draws.made s.attempt);
  attempt = s.attempt + 1;
  draws = drawn s.draws;
  last_end = Some s.t;
}

ended_bare : (s : Sender) (hit : Option ℕ) → bare_sender (sending_ended s hit) ≡ bare_sender (sending_ended (bare_sender s) hit)
ended_bare s None = refl
ended_bare s (Some hit) =
    let b : Sender = bare_sender s in
    either_bare (eqb s.attempt attempt_limit) (frame_left s) (backed_off s) (frame_left b) (backed_off b) refl refl

finished_from_bare : (s : Sender) (p : Phase) → bare_sender (finished_from s p) ≡ bare_sender (finished_from (bare_sender s) p)
finished_from_bare s Rest = refl
finished_from_bare s Waiting = refl
finished_from_bare s (Backoff until) = refl
finished_from_bare s (Sending start hit) =
    either_bare (has_ended s start hit) (sending_ended s hit) s (sending_ended (bare_sender s) hit) (bare_sender s) (ended_bare s hit) refl

promoted_from_bare : (s : Sender) (p : Phase) → bare_sender (promoted_from s p) ≡ bare_sender (promoted_from (bare_sender s) p)
promoted_from_bare s Rest =
    let b : Sender = bare_sender s in
    either_bare (ltb s.place (length s.queue) && leb (ready_at s.queue s.place) s.t) (record s { phase = Waiting; attempt = 1 }) s (record b { phase = Waiting; attempt = 1 }) b refl refl
promoted_from_bare s Waiting = refl
promoted_from_bare s (Sending start hit) = refl
promoted_from_bare s (Backoff until) =
    let b : Sender = bare_sender s in
    either_bare (leb until s.t) (record s { phase = Waiting }) s (record b { phase = Waiting }) b refl refl

finished_bare : (s : Sender) → bare_sender (finished s) ≡ bare_sender (finished (bare_sender s))
unfolding finished
finished_bare s = finished_from_bare s s.phase

promoted_bare : (s : Sender) → bare_sender (promoted s) ≡ bare_sender (promoted (bare_sender s))
unfolding promoted
promoted_bare s = promoted_from_bare s s.phase

ready_bare : (s : Sender) → bare_sender (promoted (finished s)) ≡ bare_sender (promoted (finished (bare_sender s)))
ready_bare s =
    promoted_bare (finished s) ∙ ap (λ x. bare_sender (promoted x)) (finished_bare s) ∙ sym (promoted_bare (finished (bare_sender s)))

turned_bare : (s : Sender) (c : Bool) → bare_sender (emitting (after_turn s c) c) ≡ bare_sender (emitting (after_turn (bare_sender s) c) c)
unfolding emitting sending_started deferring is_free
turned_bare s c = refl

emitted_bare : (s : Sender) (c : Bool) → emitted_from (after_turn s c) (after_turn s c).phase c ≡ emitted_from (after_turn (bare_sender s) c) (after_turn (bare_sender s) c).phase c
unfolding symbol_emitted sending_started deferring is_free
emitted_bare s c = refl

event_bare : (s : Sender) (p : Phase) → event_from s p ≡ event_from (bare_sender s) p
unfolding event_from
event_bare s Rest = refl
event_bare s Waiting = refl
event_bare s (Backoff until) = refl
event_bare s (Sending start None) = refl
event_bare s (Sending start (Some hit)) = refl

-- the three things that a half bit gives
pub step_state : (s : Sender) (h : Sym) → bare_sender (sender_step s h).state ≡ bare_sender (sender_step (bare_sender s) h).state
unfolding sender_step
step_state s h =
    let c = is_signal h in
    let x = promoted (finished s) in
    let y = promoted (finished (bare_sender s)) in
    turned_bare x c ∙ ap (λ z. bare_sender (emitting (after_turn z c) c)) (ready_bare s) ∙ sym (turned_bare y c)

pub step_symbol : (s : Sender) (h : Sym) → (sender_step s h).emitted ≡ (sender_step (bare_sender s) h).emitted
unfolding sender_step
step_symbol s h =
    let c = is_signal h in
    let x = promoted (finished s) in
    let y = promoted (finished (bare_sender s)) in
    emitted_bare x c ∙ ap (λ (z : Sender). emitted_from (after_turn z c) (after_turn z c).phase c) (ready_bare s) ∙ sym (emitted_bare y c)

pub step_event : (s : Sender) (h : Sym) → (sender_step s h).event ≡ (sender_step (bare_sender s) h).event
unfolding sender_step
step_event s h = event_bare s s.phase

-- all stations: what f says of each outcome
pub sendings_bare : {X : Type 0} (f : SendOutcome → X) → ((s : Sender) (h : Sym) → f (sender_step s h) ≡ f (sender_step (bare_sender s) h)) → (hs : List Sym) (ss : List Sender) → map f (sendings hs ss) ≡ map f (sendings hs (map bare_sender ss))
sendings_bare f same [] ss = refl
sendings_bare f same (h ∷ hs) [] = refl
sendings_bare f same (h ∷ hs) (s ∷ ss) = ap₂ (λ x xs. x ∷ xs) (same s h) (sendings_bare f same hs ss)

-- and of the sendings that the end of a run cuts off
cut_bare : (s : Sender) (p : Phase) → cut_from s p ≡ cut_from (bare_sender s) p
cut_bare s Rest = refl
cut_bare s Waiting = refl
cut_bare s (Sending start hit) = refl
cut_bare s (Backoff until) = refl

cut_of_bare : (s : Sender) → cut_of s ≡ cut_of (bare_sender s)
unfolding cut_of
cut_of_bare s = cut_bare s s.phase

pub cut_rows_bare : (t k : ℕ) (ss : List Sender) → cut_rows t k ss ≡ cut_rows t k (map bare_sender ss)
cut_rows_bare t k [] = refl
cut_rows_bare t k (s ∷ ss) = ap₂ (λ b (rest : List Row). row_of t k b ++ rest) (cut_of_bare s) (cut_rows_bare t (k + 1) ss)
