-- A station emits a signal in exactly those half bits after which its sender is sending.
use Rattle.std.proofs.Common.{◌≡◌, ◌≢◌, ℕ, zero, suc, ◌+◌, ◌*◌, ◌-◌, ◌<◌, ◌≤◌, Bool, true, false, Option, Some, None, List, length, refl, sym, ap, subst, ◌∙◌, arith}
use Rattle.std.proofs.lemmas.Bool.{leb-false}
use Rattle.mac_parameters.specs.Parameters.{half_bits_an_octet, preamble_length}
use Rattle.manchester_line.specs.declared.Sym.{Sym}
use Rattle.manchester_line.specs.declared.Sym.TheVariants.{Idle, Hi, Lo, Clash}
use Rattle.manchester_line.specs.Line.{is_signal}
use Rattle.manchester_line.proofs.Places.{length_line}
use Rattle.load_plan.specs.declared.plan.Plan.{Plan}
use Rattle.mac_transmit.specs.declared.phase.Phase.{Phase}
use Rattle.mac_transmit.specs.declared.phase.Phase.TheVariants.{Rest, Waiting, Sending, Backoff}
use Rattle.mac_transmit.specs.Sender.{Sender, frame_at, line_length, sending_length, symbol_of, sending_ended, has_ended, finished, finished_from, promoted, promoted_from, deferring, sending_started, phase_started, hit_at, symbol_emitted, phase_after, emitting, after_turn, is_sending, sender_step}
use Rattle.mac_transmit.proofs.SenderInvariant.{choose}
use Rattle.mac_transmit.proofs.EndedSendings.{ended_either}
use Rattle.mac_transmit.proofs.SignalSendings.{IsHitIn, jam_later, symbol_busy}
use Rattle.network.specs.Attempts.{sender_at}
use Rattle.network.specs.Times.{heard, emitted}
use Rattle.network.proofs.StationAttempts.{station_runs}
use Rattle.net_parts.proofs.NetworkFacts.{station_facts}

-- Where a sending of these octets is under way before half bit t, it began before and isn't over.
abbrev IsUnderWay : List ℕ → ℕ → Phase → Type 0
IsUnderWay octets t Rest = Unit {0}
IsUnderWay octets t Waiting = Unit {0}
IsUnderWay octets t (Sending start hit) = (start < t) × ((t ≤ start + sending_length octets hit) × IsHitIn hit (line_length octets))
IsUnderWay octets t (Backoff until) = Unit {0}

-- Where a sending of these octets is under way in half bit t, there is a symbol of it to be emitted.
abbrev IsToEmit : List ℕ → ℕ → Phase → Type 0
IsToEmit octets t Rest = Unit {0}
IsToEmit octets t Waiting = Unit {0}
IsToEmit octets t (Sending start hit) = (start ≤ t) × ((t < start + sending_length octets hit) × IsHitIn hit (line_length octets))
IsToEmit octets t (Backoff until) = Unit {0}

abbrev Holds : Sender → Type 0
Holds s = IsUnderWay (frame_at s.queue s.place) s.t s.phase

abbrev Stands : Sender → Type 0
Stands s = IsToEmit (frame_at s.queue s.place) s.t s.phase

carrier : (s : Sym) → s ≢ Idle → is_signal s ≡ true
carrier Idle h = absurd (h refl)
carrier Hi h = refl
carrier Lo h = refl
carrier Clash h = refl

some_text : (octets : List ℕ) → 0 < line_length octets
unfolding line_length
some_text octets = let long : line_length octets ≡ preamble_length + half_bits_an_octet * length octets = length_line octets in omega (arith, long)

length_next : (octets : List ℕ) (hit : Option ℕ) (c : Bool) (p : ℕ) → p < sending_length octets hit → p + 1 ≤ sending_length octets (hit_at hit c p)
length_next octets None true p l = omega (arith, jam_later p)
length_next octets None false p l = omega (arith, l)
length_next octets (Some k) true p l = omega (arith, l)
length_next octets (Some k) false p l = omega (arith, l)

in_text_next : (octets : List ℕ) (hit : Option ℕ) (c : Bool) (p : ℕ) → IsHitIn hit (line_length octets) → p < sending_length octets hit → IsHitIn (hit_at hit c p) (line_length octets)
in_text_next octets None true p h l = l
in_text_next octets None false p h l = tt
in_text_next octets (Some k) true p h l = h
in_text_next octets (Some k) false p h l = h

-- what is emitted
emission : (octets : List ℕ) (t : ℕ) (p : Phase) (c : Bool) → IsToEmit octets t p
    → (is_signal (symbol_emitted octets t p c) ≡ is_sending (phase_after t p c)) × IsUnderWay octets (t + 1) (phase_after t p c)
unfolding symbol_emitted
emission octets t Rest c h = (refl, tt)
emission octets t Waiting c h = (refl, tt)
emission octets t (Backoff until) c h = (refl, tt)
emission octets t (Sending start hit) c h =
    let p = t - start in
    let below : p < sending_length octets hit = omega (arith, h.0, h.1.0) in
    let more : p + 1 ≤ sending_length octets (hit_at hit c p) = length_next octets hit c p below in
    let in_text = in_text_next octets hit c p h.1.1 below in
    (carrier (symbol_of octets (hit_at hit c p) p) (symbol_busy octets (hit_at hit c p) p in_text (omega (arith, more))), (omega (arith, h.0), (omega (arith, h.0, more), in_text)))

-- the finish
finishes : (s : Sender) (p : Phase) → s.phase ≡ p → IsUnderWay (frame_at s.queue s.place) s.t p → Stands (finished_from s p)
finishes s Rest e h = subst (IsToEmit (frame_at s.queue s.place) s.t) (sym e) tt
finishes s Waiting e h = subst (IsToEmit (frame_at s.queue s.place) s.t) (sym e) tt
finishes s (Backoff until) e h = subst (IsToEmit (frame_at s.queue s.place) s.t) (sym e) tt
finishes s (Sending start hit) e h =
    choose Stands (has_ended s start hit) (sending_ended s hit) s
    (λ _. ended_either Stands s hit tt tt)
    (λ b. let more : s.t < start + sending_length (frame_at s.queue s.place) hit = leb-false (start + sending_length (frame_at s.queue s.place) hit) s.t b in
    subst (IsToEmit (frame_at s.queue s.place) s.t) (sym e) (omega (arith, h.0), (more, h.1.1)))

-- the promotion
promotes : (s : Sender) (p : Phase) → Stands s → Stands (promoted_from s p)
promotes s Rest h = choose Stands _ (record s { phase = Waiting; attempt = 1 }) s (λ _. tt) (λ _. h)
promotes s Waiting h = h
promotes s (Sending start hit) h = h
promotes s (Backoff until) h = choose Stands _ (record s { phase = Waiting }) s (λ _. tt) (λ _. h)

-- the start
starts : (octets : List ℕ) (t : ℕ) (p : Phase) (free : Bool) → IsToEmit octets t p → IsToEmit octets t (phase_started t p free)
starts octets t Rest free h = tt
starts octets t Waiting true h = (omega arith, (omega (arith, some_text octets), tt))
starts octets t Waiting false h = tt
starts octets t (Sending start hit) free h = h
starts octets t (Backoff until) free h = tt

turns : (s : Sender) (c : Bool) → Stands s → Stands (after_turn s c)
unfolding sending_started deferring
turns s c h = starts (frame_at s.queue s.place) s.t s.phase _ h

before : (s : Sender) (c : Bool) → Holds s → Stands (after_turn (promoted (finished s)) c)
unfolding finished promoted
before s c h = turns (promoted (finished s)) c (promotes (finished s) (finished s).phase (finishes s s.phase refl h))

-- one half bit
step_emits : (s : Sender) (x : Sym) → Holds s → (is_signal (sender_step s x).emitted ≡ is_sending (sender_step s x).state.phase) × Holds (sender_step s x).state
unfolding sender_step emitting
step_emits s x h =
    let c = is_signal x in
    let b = after_turn (promoted (finished s)) c in
    emission (frame_at b.queue b.place) b.t b.phase c (before s c h)

-- a station of a network
station_holds : (plan : Plan) (k t : ℕ) → k < length plan.layout.stations → Holds (sender_at plan k t)
station_holds plan k zero l = subst Holds (sym (station_runs plan k zero l)) tt
station_holds plan k (suc t) l =
    subst Holds (sym ((station_facts plan).steps k t l)) (step_emits (sender_at plan k t) (heard plan k t) (station_holds plan k t l)).1

pub station_sends : (plan : Plan) (k t : ℕ) → k < length plan.layout.stations → is_signal (emitted plan k t) ≡ is_sending (sender_at plan k (suc t)).phase
station_sends plan k t l =
    ap is_signal ((station_facts plan).emits k t l)
    ∙ (step_emits (sender_at plan k t) (heard plan k t) (station_holds plan k t l)).0
    ∙ ap (λ (s : Sender). is_sending s.phase) (sym ((station_facts plan).steps k t l))
