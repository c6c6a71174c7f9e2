-- The rows of a sender whose gaps are kept.
use Rattle.std.proofs.Common.{◌≡◌, ℕ, suc, ◌+◌, ◌*◌, ◌/◌, ◌≤◌, ◌⊎◌, inl, inr, Bool, true, false, ◌&&◌, ltb, leb, Option, Some, None, List, [], ◌∷◌, length, refl, sym, ap, subst, ◌∙◌, arith}
use Rattle.std.specs.Prelude.{if◌then◌else◌}
use Rattle.mac_parameters.specs.Parameters.{interframe_gap, most_half_bits}
use Rattle.std.proofs.lemmas.Bool.{cond_both, leb-true}
use Rattle.std.proofs.lemmas.Option.{none-some}
use Rattle.manchester_line.specs.Line.{is_signal}
use Rattle.manchester_line.specs.declared.Sym.{Sym}
use Rattle.collision_log.specs.declared.row.Body.{Body}
use Rattle.mac_receive.specs.Receiver.{with_event}
use Rattle.mac_transmit.specs.declared.phase.Phase.{Phase}
use Rattle.mac_transmit.specs.declared.phase.Phase.TheVariants.{Rest, Waiting, Sending, Backoff}
use Rattle.mac_transmit.specs.Laws.{StartsAt, IsAway, end_after}
use Rattle.mac_transmit.specs.Sender.{Sender, IsSender, sender_step, finished, finished_from, sending_ended, end_event, event_from, promoted, promoted_from, ready_at, deferring, is_free, sending_started, phase_started, emitting, phase_after, after_turn, frame_at, sending_length}
use Rattle.mac_transmit.proofs.StartGaps as going
use Rattle.mac_transmit.proofs.EndedSendings.{ended_either}
use Rattle.window_room.specs.Sendings.{least_turn, sending_bodies}
use Rattle.window_room.proofs.SendingBounds.{finishes, promotes, length_least}

-- the start of a sending under way
abbrev Starts : (ℕ → Type 0) → Phase → Type 0
Starts A (Sending start hit) = A start
Starts A _ = Unit {0}

ended_keeps : (A : ℕ → Type 0) (s : Sender) (hit : Option ℕ) → Starts A (sending_ended s hit).phase
ended_keeps A s hit = ended_either (λ x. Starts A x.phase) s hit tt tt

if_keeps : (A : ℕ → Type 0) (b : Bool) (x y : Sender) (e : Body) → Starts A y.phase → ((if b then Some e else None) ≡ None → Starts A x.phase) → Starts A (if b then y else x).phase
if_keeps A true x y e a g = a
if_keeps A false x y e a g = g refl

finish_keeps : (A : ℕ → Type 0) (s : Sender) → (event_from s s.phase ≡ None → Starts A s.phase) → Starts A (finished s).phase
unfolding finished event_from
finish_keeps A s = at_phase s.phase
  where
    at_phase : (p : Phase) → (event_from (record s { phase = p }) p ≡ None → Starts A p) → Starts A (finished_from (record s { phase = p }) p).phase
    at_phase Rest g = tt
    at_phase Waiting g = tt
    at_phase (Sending start hit) g =
        let x = record s { phase = Sending start hit } in
        if_keeps A (leb (start + sending_length (frame_at s.queue s.place) hit) s.t) x (sending_ended x hit) (end_event x start hit) (ended_keeps A x hit) g
    at_phase (Backoff until) g = tt

promote_keeps : (A : ℕ → Type 0) (s : Sender) → Starts A s.phase → Starts A (promoted s).phase
unfolding promoted
promote_keeps A s = at_phase s.phase
  where
    at_phase : (p : Phase) → Starts A p → Starts A (promoted_from (record s { phase = p }) p).phase
    at_phase Rest g = cond_both (ltb s.place (length s.queue) && leb (ready_at s.queue s.place) s.t) (record s { phase = Waiting; attempt = 1 }) (record s { phase = Rest }) (λ x. Starts A x.phase) (λ _. tt) (λ _. tt)
    at_phase Waiting g = tt
    at_phase (Sending start hit) g = g
    at_phase (Backoff until) g = cond_both (leb until s.t) (record s { phase = Waiting }) (record s { phase = Backoff until }) (λ x. Starts A x.phase) (λ _. tt) (λ _. tt)

start_keeps : (A : ℕ → Type 0) (t : ℕ) (p : Phase) (free : Bool) → A t → Starts A p → Starts A (phase_started t p free)
start_keeps A t Waiting true a g = a
start_keeps A t Waiting false a g = tt
start_keeps A t Rest true a g = tt
start_keeps A t Rest false a g = tt
start_keeps A t (Sending start hit) true a g = g
start_keeps A t (Sending start hit) false a g = g
start_keeps A t (Backoff until) true a g = tt
start_keeps A t (Backoff until) false a g = tt

emit_keeps : (A : ℕ → Type 0) (t : ℕ) (p : Phase) (c : Bool) → Starts A p → Starts A (phase_after t p c)
emit_keeps A t (Sending start hit) c g = g
emit_keeps A t Rest c g = tt
emit_keeps A t Waiting c g = tt
emit_keeps A t (Backoff until) c g = tt

turn_keeps : (A : ℕ → Type 0) (s : Sender) (c : Bool) → A s.t → Starts A s.phase → Starts A (emitting (after_turn s c) c).phase
unfolding sending_started deferring is_free emitting
turn_keeps A s c a g = emit_keeps A s.t (phase_started s.t s.phase (is_free s c)) c (start_keeps A s.t s.phase (is_free s c) a g)

sent_keeps : (A : ℕ → Type 0) (s : Sender) (h : Sym) → A s.t → ((sender_step s h).event ≡ None → Starts A s.phase) → Starts A (sender_step s h).state.phase
unfolding sender_step
sent_keeps A s h a g =
    turn_keeps A (promoted (finished s)) (is_signal h) (subst A (sym ((promotes (finished s)).0 ∙ (finishes s).0)) a) (promote_keeps A (finished s) (finish_keeps A s g))

-- a sending under way began interframe_gap half bits or more after the last end
abbrev IsGapKept : Sender → Type 0
IsGapKept s = Starts (IsAway s.last_end interframe_gap) s.phase

weaker : (t : ℕ) (last : Option ℕ) (p : Phase) → Starts (IsAway last interframe_gap) p → Starts (λ x. (x ≡ t) ⊎ IsAway last interframe_gap x) p
weaker t last (Sending start hit) g = inr g
weaker t last Rest g = tt
weaker t last Waiting g = tt
weaker t last (Backoff until) g = tt

stronger : (t : ℕ) (last : Option ℕ) (p : Phase) → (StartsAt t p → IsAway last interframe_gap t) → Starts (λ x. (x ≡ t) ⊎ IsAway last interframe_gap x) p → Starts (IsAway last interframe_gap) p
stronger t last (Sending start hit) f (inl e) = subst (IsAway last interframe_gap) (sym e) (f e)
stronger t last (Sending start hit) f (inr a) = a
stronger t last Rest f g = tt
stronger t last Waiting f g = tt
stronger t last (Backoff until) f g = tt

gap_next : (s : Sender) (h : Sym) → going.Steps s h → ((sender_step s h).event ≡ None → IsGapKept s) → IsGapKept (sender_step s h).state
gap_next s h k g =
    let last : Option ℕ = (sender_step s h).state.last_end in
    let P : Option ℕ → Type 0 = λ o. Starts (λ x. (x ≡ s.t) ⊎ IsAway o interframe_gap x) s.phase in
    stronger s.t last (sender_step s h).state.phase k.gap_kept
    (sent_keeps (λ x. (x ≡ s.t) ⊎ IsAway last interframe_gap x) s h (inl refl)
    (λ e. subst P (sym (k.end ∙ ap (end_after s.last_end s.t) e)) (weaker s.t s.last_end s.phase (g e))))

-- an event comes at least least_turn half bits after the last end
far_from : (s : Sender) (p : Phase) (y : ℕ) (b : Body) → s.last_end ≡ Some y → Starts (IsAway s.last_end interframe_gap) p → event_from (record s { phase = p }) p ≡ Some b → y + least_turn ≤ s.t
unfolding event_from
far_from s Rest y b e g is = absurd (none-some b is)
far_from s Waiting y b e g is = absurd (none-some b is)
far_from s (Backoff until) y b e g is = absurd (none-some b is)
far_from s (Sending start hit) y b e g is = far (leb (start + sending_length (frame_at s.queue s.place) hit) s.t) refl is
  where
    far : (c : Bool) → leb (start + sending_length (frame_at s.queue s.place) hit) s.t ≡ c → (if c then Some (end_event (record s { phase = Sending start hit }) start hit) else None) ≡ Some b → y + least_turn ≤ s.t
    far true l i =
        let over : start + sending_length (frame_at s.queue s.place) hit ≤ s.t = leb-true (start + sending_length (frame_at s.queue s.place) hit) s.t l in
        let away : y + interframe_gap ≤ start = subst (λ o. IsAway o interframe_gap start) e g in
        omega (arith, over, away, length_least (frame_at s.queue s.place) hit)
    far false l i = absurd (none-some b i)

far : (s : Sender) (h : Sym) (y : ℕ) (b : Body) → s.last_end ≡ Some y → IsGapKept s → (sender_step s h).event ≡ Some b → y + least_turn ≤ s.t
unfolding sender_step
far s h y b e g is = far_from s s.phase y b e g is

-- the events of half bits after an end in half bit y
abbrev Few : List Sym → Sender → ℕ → Type 0
Few hs s y = least_turn * length (sending_bodies s hs) + y ≤ length hs + s.t

abbrev FewAfter : List Sym → Sender → Type 0
FewAfter hs s = (y : ℕ) → s.last_end ≡ Some y → y ≤ s.t → IsGapKept s → Few hs s y

after_event : (hs : List Sym) (s : Sender) (h : Sym) (y : ℕ) (o : Option Body) → (sender_step s h).event ≡ o → going.Steps s h → s.last_end ≡ Some y → y ≤ s.t → IsGapKept s → FewAfter hs (sender_step s h).state
    → least_turn * length (with_event o (sending_bodies (sender_step s h).state hs)) + y ≤ suc (length hs) + s.t
after_event hs s h y None is k e m g few =
    let time : (sender_step s h).state.t ≡ s.t + 1 = k.time in
    let rest : Few hs (sender_step s h).state y = few y (k.end ∙ ap (end_after s.last_end s.t) is ∙ e) (omega (arith, m, time)) (gap_next s h k (λ _. g)) in
    omega (arith, rest, time)
after_event hs s h y (Some b) is k e m g few =
    let time : (sender_step s h).state.t ≡ s.t + 1 = k.time in
    let rest : Few hs (sender_step s h).state s.t = few s.t (k.end ∙ ap (end_after s.last_end s.t) is) (omega (arith, time)) (gap_next s h k (λ _. g)) in
    omega (arith, rest, time, far s h y b e g is)

after_end : (hs : List Sym) (s : Sender) (y : ℕ) → IsSender s → s.t + length hs ≤ most_half_bits → s.last_end ≡ Some y → y ≤ s.t → IsGapKept s → Few hs s y
after_end [] s y v l e m g = omega (arith, m)
after_end (h ∷ hs) s y v l e m g =
    let k = going.steps s h v (omega (arith, l)) in
    let time : (sender_step s h).state.t ≡ s.t + 1 = k.time in
    after_event hs s h y (sender_step s h).event refl k e m g (λ z e' m' g'. after_end hs (sender_step s h).state z k.valid (omega (arith, l, time)) e' m' g')

-- from any state
any_event : (hs : List Sym) (s : Sender) (h : Sym) (o : Option Body) → (sender_step s h).event ≡ o → going.Steps s h → FewAfter hs (sender_step s h).state → least_turn * length (sending_bodies (sender_step s h).state hs) ≤ length hs + least_turn
    → least_turn * length (with_event o (sending_bodies (sender_step s h).state hs)) ≤ suc (length hs) + least_turn
any_event hs s h None is k few any = omega (arith, any)
any_event hs s h (Some b) is k few any =
    let time : (sender_step s h).state.t ≡ s.t + 1 = k.time in
    let rest : Few hs (sender_step s h).state s.t = few s.t (k.end ∙ ap (end_after s.last_end s.t) is) (omega (arith, time)) (gap_next s h k (λ e. absurd (none-some b (sym e ∙ is)))) in
    omega (arith, rest, time)

any_state : (hs : List Sym) (s : Sender) → IsSender s → s.t + length hs ≤ most_half_bits → least_turn * length (sending_bodies s hs) ≤ length hs + least_turn
any_state [] s v l = omega arith
any_state (h ∷ hs) s v l =
    let k = going.steps s h v (omega (arith, l)) in
    let time : (sender_step s h).state.t ≡ s.t + 1 = k.time in
    any_event hs s h (sender_step s h).event refl k (λ z e m g. after_end hs (sender_step s h).state z k.valid (omega (arith, l, time)) e m g) (any_state hs (sender_step s h).state k.valid (omega (arith, l, time)))

pub gaps : (s : Sender) (hs : List Sym) → IsSender s → s.t + length hs ≤ most_half_bits → length (sending_bodies s hs) ≤ 1 + length hs / least_turn
gaps s hs v l = omega (arith, any_state hs s v l)
