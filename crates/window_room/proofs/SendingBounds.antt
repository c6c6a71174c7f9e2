-- The rows of a sender.
use Rattle.std.proofs.Common.{◌≡◌, ℕ, suc, ◌+◌, ◌*◌, ◌/◌, ◌≤◌, Bool, true, false, ◌&&◌, ltb, leb, Option, Some, None, List, [], ◌∷◌, length, refl, ap, ◌∙◌, arith}
use Rattle.std.specs.Prelude.{if◌then◌else◌}
use Rattle.mac_parameters.specs.Parameters.{preamble_length}
use Rattle.std.proofs.lemmas.Bool.{cond_both, leb-true}
use Rattle.manchester_line.specs.Line.{is_signal}
use Rattle.manchester_line.specs.declared.Sym.{Sym}
use Rattle.std.proofs.lemmas.Bool.Decides.{nat_tests}
use Rattle.manchester_line.proofs.Places.{length_line}
use Rattle.collision_log.specs.declared.row.Body.{Body}
use Rattle.mac_receive.specs.Receiver.{with_event}
use Rattle.mac_transmit.specs.declared.phase.Phase.{Phase}
use Rattle.mac_transmit.specs.declared.phase.Phase.TheVariants.{Rest, Waiting, Sending, Backoff}
use Rattle.mac_transmit.specs.Sender.{Sender, sender_step, finished, finished_from, sending_ended, end_event, event_from, promoted, promoted_from, ready_at, deferring, is_free, sending_started, phase_started, emitting, phase_after, after_turn, frame_at, line_length, sending_length, jam_start}
use Rattle.mac_transmit.proofs.EndedSendings.{ended_either}
use Rattle.window_room.specs.Sendings.{elapsed, sending_bodies}

jam_late : (hit : ℕ) → preamble_length ≤ jam_start hit
jam_late hit = grind (arith, nat_tests)

pub length_least : (octets : List ℕ) (hit : Option ℕ) → preamble_length ≤ sending_length octets hit
unfolding line_length
length_least octets None = omega (arith, length_line octets)
length_least octets (Some hit) = omega (arith, jam_late hit)

-- the event of a sender by which a sending under way goes from so many half bits to so many
abbrev pub Spends : ℕ → ℕ → Option Body → Type 0
Spends before after None = after ≤ before
Spends before after (Some body) = (preamble_length ≤ before) × (after ≡ 0)

-- a part of a half bit
abbrev pub Follows : Sender → Sender → Option Body → Type 0
Follows s s' e = (s'.t ≡ s.t) × Spends (elapsed s.t s.phase) (elapsed s.t s'.phase) e

stays : (s : Sender) → Follows s s None
stays s = (refl, omega arith)

ended_still : (s : Sender) (hit : Option ℕ) → ((sending_ended s hit).t ≡ s.t) × (elapsed s.t (sending_ended s hit).phase ≡ 0)
ended_still s hit = ended_either (λ x. (x.t ≡ s.t) × (elapsed s.t x.phase ≡ 0)) s hit (refl, refl) (refl, refl)

finishes_if : (b : Bool) (s s' : Sender) (e : Body) → (b ≡ true → Follows s s' (Some e)) → Follows s (if b then s' else s) (if b then Some e else None)
finishes_if true s s' e f = f refl
finishes_if false s s' e f = stays s

pub finishes : (s : Sender) → Follows s (finished s) (event_from s s.phase)
unfolding finished event_from
finishes s = at_phase s.phase
  where
    at_phase : (p : Phase) → Follows (record s { phase = p }) (finished_from (record s { phase = p }) p) (event_from (record s { phase = p }) p)
    at_phase Rest = stays (record s { phase = Rest })
    at_phase Waiting = stays (record s { phase = Waiting })
    at_phase (Sending start hit) =
        let x = record s { phase = Sending start hit } in
        finishes_if (leb (start + sending_length (frame_at s.queue s.place) hit) s.t) x (sending_ended x hit) (end_event x start hit)
        (λ e.
        let over : start + sending_length (frame_at s.queue s.place) hit ≤ s.t = leb-true (start + sending_length (frame_at s.queue s.place) hit) s.t e in
        ((ended_still x hit).0, (omega (arith, over, length_least (frame_at s.queue s.place) hit), (ended_still x hit).1)))
    at_phase (Backoff until) = stays (record s { phase = Backoff until })

pub promotes : (s : Sender) → Follows s (promoted s) None
unfolding promoted
promotes s = at_phase s.phase
  where
    at_phase : (p : Phase) → Follows (record s { phase = p }) (promoted_from (record s { phase = p }) p) None
    at_phase Rest =
        cond_both (ltb s.place (length s.queue) && leb (ready_at s.queue s.place) s.t) (record s { phase = Waiting; attempt = 1 }) (record s { phase = Rest }) (λ x. Follows (record s { phase = Rest }) x None)
        (λ _. (refl, omega arith)) (λ _. stays (record s { phase = Rest }))
    at_phase Waiting = stays (record s { phase = Waiting })
    at_phase (Sending start hit) = stays (record s { phase = Sending start hit })
    at_phase (Backoff until) =
        cond_both (leb until s.t) (record s { phase = Waiting }) (record s { phase = Backoff until }) (λ x. Follows (record s { phase = Backoff until }) x None)
        (λ _. (refl, omega arith)) (λ _. stays (record s { phase = Backoff until }))

starts : (t : ℕ) (p : Phase) (free : Bool) → elapsed t (phase_started t p free) ≤ elapsed t p
starts t Waiting true = omega arith
starts t Waiting false = omega arith
starts t Rest true = omega arith
starts t Rest false = omega arith
starts t (Sending start hit) true = omega arith
starts t (Sending start hit) false = omega arith
starts t (Backoff until) true = omega arith
starts t (Backoff until) false = omega arith

emits : (t : ℕ) (p : Phase) (c : Bool) → elapsed (t + 1) (phase_after t p c) ≤ elapsed t p + 1
emits t (Sending start hit) c = omega arith
emits t Rest c = omega arith
emits t Waiting c = omega arith
emits t (Backoff until) c = omega arith

joins : (a b d : ℕ) → a ≤ b + 1 → b ≤ d → a ≤ d + 1
joins a b d h k = omega (arith, h, k)

turns : (s : Sender) (c : Bool) → elapsed (emitting (after_turn s c) c).t (emitting (after_turn s c) c).phase ≤ elapsed s.t s.phase + 1
unfolding sending_started deferring is_free emitting
turns s c = joins (elapsed (s.t + 1) _) (elapsed s.t (phase_started s.t s.phase (is_free s c))) (elapsed s.t s.phase) (emits s.t _ c) (starts s.t s.phase (is_free s c))

-- a whole half bit
abbrev pub StepsOn : Sender → Sender → Option Body → Type 0
StepsOn s s' None = elapsed s'.t s'.phase ≤ elapsed s.t s.phase + 1
StepsOn s s' (Some body) = (preamble_length ≤ elapsed s.t s.phase) × (elapsed s'.t s'.phase ≤ 1)

joined : (s f p s' : Sender) (e : Option Body) → Follows s f e → Follows f p None → elapsed s'.t s'.phase ≤ elapsed p.t p.phase + 1 → StepsOn s s' e
joined s f p s' None a b c =
    let g : elapsed p.t p.phase ≡ elapsed s.t p.phase = ap (λ t. elapsed t p.phase) (b.0 ∙ a.0) in
    let h : elapsed f.t p.phase ≡ elapsed s.t p.phase = ap (λ t. elapsed t p.phase) a.0 in
    let k : elapsed f.t f.phase ≡ elapsed s.t f.phase = ap (λ t. elapsed t f.phase) a.0 in
    omega (arith, a.1, b.1, c, g, h, k)
joined s f p s' (Some body) a b c =
    let g : elapsed p.t p.phase ≡ elapsed s.t p.phase = ap (λ t. elapsed t p.phase) (b.0 ∙ a.0) in
    let h : elapsed f.t p.phase ≡ elapsed s.t p.phase = ap (λ t. elapsed t p.phase) a.0 in
    let k : elapsed f.t f.phase ≡ elapsed s.t f.phase = ap (λ t. elapsed t f.phase) a.0 in
    (a.1.0, omega (arith, a.1.1, b.1, c, g, h, k))

pub steps_on : (s : Sender) (h : Sym) → StepsOn s (sender_step s h).state (sender_step s h).event
unfolding sender_step
steps_on s h = joined s (finished s) (promoted (finished s)) (sender_step s h).state (event_from s s.phase) (finishes s) (promotes (finished s)) (turns (promoted (finished s)) (is_signal h))

record FewSent (total n before : ℕ) : Type 0 where
  of_halves : preamble_length * total ≤ n + before
  of_cap : preamble_length * total ≤ n + preamble_length

one_event : (s s' : Sender) (e : Option Body) (n : ℕ) (bodies : List Body) → StepsOn s s' e → FewSent (length bodies) n (elapsed s'.t s'.phase) → FewSent (length (with_event e bodies)) (suc n) (elapsed s.t s.phase)
one_event s s' None n bodies k f = record { of_halves = omega (arith, k, f.of_halves); of_cap = omega (arith, f.of_cap) }
one_event s s' (Some body) n bodies k f = record { of_halves = omega (arith, k.0, k.1, f.of_halves); of_cap = omega (arith, k.1, f.of_halves) }

few_sent : (s : Sender) (hs : List Sym) → FewSent (length (sending_bodies s hs)) (length hs) (elapsed s.t s.phase)
few_sent s [] = record { of_halves = omega arith; of_cap = omega arith }
few_sent s (h ∷ hs) = one_event s (sender_step s h).state (sender_step s h).event (length hs) (sending_bodies (sender_step s h).state hs) (steps_on s h) (few_sent (sender_step s h).state hs)

pub sendings : (s : Sender) (hs : List Sym) → length (sending_bodies s hs) ≤ 1 + length hs / preamble_length
sendings s hs = omega (arith, (few_sent s hs).of_cap)
