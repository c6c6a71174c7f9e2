-- One half bit of a sender of which a sending is under way.
use Rattle.std.proofs.Common.{◌≡◌, ℕ, zero, suc, ◌+◌, ◌-◌, ◌<◌, ◌≤◌, Bool, true, false, ltb, leb, ◌&&◌, Option, Some, None, List, [], ◌∷◌, length, refl, sym, ap, subst, ◌∙◌, arith}
use Rattle.std.proofs.lemmas.Bool.{cond-true, cond-false, cond_both, leb-true}
use Rattle.std.proofs.lemmas.Bool.Decides.{nat_tests}
use Rattle.manchester_line.specs.declared.Sym.{Sym}
use Rattle.manchester_line.specs.declared.Sym.TheVariants.{Idle}
use Rattle.manchester_line.specs.Line.{is_signal, jam_at}
use Rattle.mac_transmit.specs.declared.phase.Phase.{Phase}
use Rattle.mac_transmit.specs.declared.phase.Phase.TheVariants.{Rest, Waiting, Sending, Backoff}
use Rattle.mac_transmit.specs.Sender.{Sender, sender_step, finished, sending_ended, promoted, deferring, is_free, sending_started, emitting, after_turn, emitted_from, symbol_emitted, symbol_of, phase_started, phase_after, hit_at, frame_at, ready_at, line_at, jam_start, sending_length, is_sending}
use Rattle.mac_transmit.specs.Calm.{after_all, AllHeardAs, AreCalm}
use Rattle.mac_transmit.specs.Emissions.{IsSendingFor, emission_by}
use Rattle.mac_transmit.proofs.CalmHalfBits.{state_is}
use Rattle.mac_transmit.proofs.EndedSendings.{ended_either}
use Rattle.mac_transmit.proofs.SignalSendings.{jam_later}
use Rattle.segment_engine.specs.SteadyPieces.{IsCalmAs}
use Rattle.segment_engine.proofs.SendingTexts.{text_length}

-- a hit changes nothing in the half bit in which it comes
less : (a b : ℕ) → a < b → ltb a b ≡ true
less a b h = grind (arith, nat_tests)

past : (a b : ℕ) → b < a → leb a b ≡ false
past a b h = grind (arith, nat_tests)

new_hit : (octets : List ℕ) (hit : Option ℕ) (c : Bool) (p : ℕ) → symbol_of octets (hit_at hit c p) p ≡ symbol_of octets hit p
new_hit octets None true p = cond-true (ltb p (jam_start p)) (line_at octets p) (jam_at (p - jam_start p)) (less p (jam_start p) (jam_later p))
new_hit octets None false p = refl
new_hit octets (Some hit) c p = refl

-- a sending has half bits
length_some : (octets : List ℕ) (hit : Option ℕ) → 0 < sending_length octets hit
length_some octets None = let e = text_length octets in omega (arith, e)
length_some octets (Some hit) = omega arith

-- a sender in a half bit in which it doesn't send, up to its start
abbrev IsSilentAt : ℕ → Sender → Type 0
IsSilentAt t x = (x.t ≡ t) × (is_sending x.phase ≡ false)

ended_silent : (s : Sender) (hit : Option ℕ) → IsSilentAt s.t (sending_ended s hit)
ended_silent s hit = ended_either (IsSilentAt s.t) s hit (refl, refl) (refl, refl)

promoted_silent : (x : Sender) (t : ℕ) (p : Phase) → IsSilentAt t (record x { phase = p }) → IsSilentAt t (promoted (record x { phase = p }))
unfolding promoted
promoted_silent x t Rest h =
    cond_both (ltb x.place (length x.queue) && leb (ready_at x.queue x.place) x.t) (record x { phase = Waiting; attempt = 1 }) (record x { phase = Rest }) (IsSilentAt t)
    (λ _. (h.0, refl)) (λ _. h)
promoted_silent x t Waiting h = h
promoted_silent x t (Sending start hit) h = h
promoted_silent x t (Backoff until) h = cond_both (leb until x.t) (record x { phase = Waiting }) (record x { phase = Backoff until }) (IsSilentAt t) (λ _. (h.0, refl)) (λ _. h)

-- a sending that begins does so now
abbrev start_of : Phase → ℕ
start_of (Sending start hit) = start
start_of _ = 0

starts_now : (t : ℕ) (p : Phase) (f c : Bool) (start : ℕ) (hit : Option ℕ) → is_sending p ≡ false → phase_after t (phase_started t p f) c ≡ Sending start hit → t ≡ start
starts_now t Rest f c start hit e h = absurd (let no : false ≡ true = ap is_sending h in cc)
starts_now t Waiting true c start hit e h = ap start_of h
starts_now t Waiting false c start hit e h = absurd (let no : false ≡ true = ap is_sending h in cc)
starts_now t (Sending a b) f c start hit e h = absurd (cc)
starts_now t (Backoff until) f c start hit e h = absurd (let no : false ≡ true = ap is_sending h in cc)

-- a sender of which a sending is under way, and the half bit in which this ends
abbrev under : Sender → ℕ → Option ℕ → Sender
under s start hit = record s { phase = Sending start hit }

abbrev end_of : Sender → ℕ → Option ℕ → ℕ
end_of s start hit = start + sending_length (frame_at s.queue s.place) hit

settled : (s : Sender) (start : ℕ) (hit : Option ℕ) → leb (end_of s start hit) s.t ≡ false → promoted (finished (under s start hit)) ≡ under s start hit
unfolding promoted finished
settled s start hit l = ap promoted (cond-false (leb (end_of s start hit) s.t) (sending_ended (under s start hit) hit) (under s start hit) l)

state_on : (s : Sender) (h : Sym) (start : ℕ) (hit : Option ℕ) → leb (end_of s start hit) s.t ≡ false → (sender_step (under s start hit) h).state ≡ emitting (after_turn (under s start hit) (is_signal h)) (is_signal h)
state_on s h start hit l = state_is (under s start hit) h (is_signal h) refl ∙ ap (λ x. emitting (after_turn x (is_signal h)) (is_signal h)) (settled s start hit l)

sends_on : (s : Sender) (h : Sym) (start : ℕ) (hit : Option ℕ) → leb (end_of s start hit) s.t ≡ false → is_sending (sender_step (under s start hit) h).state.phase ≡ true
unfolding emitting sending_started deferring
sends_on s h start hit l = ap (λ (x : Sender). is_sending x.phase) (state_on s h start hit l)

emits_on : (s : Sender) (h : Sym) (start : ℕ) (hit : Option ℕ) → leb (end_of s start hit) s.t ≡ false → (sender_step (under s start hit) h).emitted ≡ emission_by (under s start hit) 0 (Sending start hit)
unfolding sender_step sending_started deferring symbol_emitted
emits_on s h start hit l =
    let c = is_signal h in
    let now : s.t - start ≡ s.t + 0 - start = omega arith in
    ap (λ x. emitted_from (after_turn x c) (after_turn x c).phase c) (settled s start hit l)
    ∙ new_hit (frame_at s.queue s.place) hit c (s.t - start)
    ∙ ap (symbol_of (frame_at s.queue s.place) hit) now

-- behind a sending that has ended another would begin now
begins_now : (s : Sender) (h : Sym) (start : ℕ) (hit : Option ℕ) (start' : ℕ) (hit' : Option ℕ) → leb (end_of s start hit) s.t ≡ true → (sender_step (under s start hit) h).state.phase ≡ Sending start' hit' → s.t ≡ start'
unfolding finished emitting sending_started deferring
begins_now s h start hit start' hit' l e =
    let c = is_signal h in
    let u = under s start hit in
    let y = sending_ended u hit in
    let x = promoted y in
    let is : promoted (finished u) ≡ x = ap promoted (cond-true (leb (end_of s start hit) s.t) y u l) in
    let silent : IsSilentAt s.t x = promoted_silent y s.t y.phase (ended_silent u hit) in
    let after : (sender_step u h).state.phase ≡ (emitting (after_turn x c) c).phase = ap (λ (z : Sender). z.phase) (state_is u h c refl) ∙ ap (λ z. (emitting (after_turn z c) c).phase) is in
    sym silent.0 ∙ starts_now x.t x.phase (is_free x c) c start' hit' silent.1 (sym after ∙ e)

not_ended : (s : Sender) (h : Sym) (start : ℕ) (hit : Option ℕ) (b : Bool) → leb (end_of s start hit) s.t ≡ b → (sender_step (under s start hit) h).state.phase ≡ Sending start hit → b ≡ false
not_ended s h start hit true l e =
    let now : s.t ≡ start = begins_now s h start hit start hit l e in
    let ended = leb-true (end_of s start hit) s.t l in
    let some = length_some (frame_at s.queue s.place) hit in
    absurd (omega (arith, now, ended, some))
not_ended s h start hit false l e = refl

-- a sending that goes on with the same hit, or with none: what it emits then, and how long it lasts
sending_on : (s : Sender) (h : Sym) (j start : ℕ) (hit : Option ℕ) → (sender_step (under s start hit) h).state.phase ≡ Sending start hit →
    emission_by (sender_step (under s start hit) h).state j (sender_step (under s start hit) h).state.phase ≡ emission_by (under s start hit) (suc j) (Sending start hit)
unfolding emitting sending_started deferring
sending_on s h j start hit same =
    let l = not_ended s h start hit (leb (end_of s start hit) s.t) refl same in
    let later : s.t + 1 + j - start ≡ s.t + suc j - start = omega arith in
    ap (emission_by (sender_step (under s start hit) h).state j) same
    ∙ ap (λ x. emission_by x j (Sending start hit)) (state_on s h start hit l)
    ∙ ap (symbol_of (frame_at s.queue s.place) hit) later

pub same_sending : (s : Sender) (h : Sym) (j : ℕ) → is_sending s.phase ≡ true → (sender_step s h).state.phase ≡ s.phase →
    emission_by (sender_step s h).state j (sender_step s h).state.phase ≡ emission_by s (suc j) s.phase
same_sending s h j = sending_in s.phase
  where
    sending_in : (p : Phase) → is_sending p ≡ true → (sender_step (record s { phase = p }) h).state.phase ≡ p →
        emission_by (sender_step (record s { phase = p }) h).state j (sender_step (record s { phase = p }) h).state.phase ≡ emission_by (record s { phase = p }) (suc j) p
    sending_in Rest e same = absurd (cc)
    sending_in Waiting e same = absurd (cc)
    sending_in (Sending start hit) e same = sending_on s h j start hit same
    sending_in (Backoff until) e same = absurd (cc)

lasts_on : (s : Sender) (h : Sym) (n start : ℕ) (hit : Option ℕ) → (sender_step (under s start hit) h).state.phase ≡ Sending start hit → IsSendingFor (under s start hit) (suc n) (Sending start hit) →
    IsSendingFor (sender_step (under s start hit) h).state n (sender_step (under s start hit) h).state.phase
unfolding emitting sending_started deferring
lasts_on s h n start hit same lasts =
    let l = not_ended s h start hit (leb (end_of s start hit) s.t) refl same in
    let left : n ≤ end_of s start hit - (s.t + 1) = omega (arith, lasts) in
    subst (IsSendingFor (sender_step (under s start hit) h).state n) (sym same)
    (subst (λ x. IsSendingFor x n (Sending start hit)) (sym (state_on s h start hit l)) left)

pub same_lasts : (s : Sender) (h : Sym) (n : ℕ) → is_sending s.phase ≡ true → (sender_step s h).state.phase ≡ s.phase →
    IsSendingFor s (suc n) s.phase → IsSendingFor (sender_step s h).state n (sender_step s h).state.phase
same_lasts s h n = lasts_in s.phase
  where
    lasts_in : (p : Phase) → is_sending p ≡ true → (sender_step (record s { phase = p }) h).state.phase ≡ p → IsSendingFor (record s { phase = p }) (suc n) p →
        IsSendingFor (sender_step (record s { phase = p }) h).state n (sender_step (record s { phase = p }) h).state.phase
    lasts_in Rest e same lasts = absurd (cc)
    lasts_in Waiting e same lasts = absurd (cc)
    lasts_in (Sending start hit) e same lasts = lasts_on s h n start hit same lasts
    lasts_in (Backoff until) e same lasts = absurd (cc)

-- in a half bit in which it hasn't ended a sending emits what it would without a hit in it
pub same_emits : (s : Sender) (h : Sym) (n : ℕ) → IsSendingFor s (suc n) s.phase → (sender_step s h).emitted ≡ emission_by s 0 s.phase
same_emits s h n = emits_in s.phase
  where
    emits_in : (p : Phase) → IsSendingFor (record s { phase = p }) (suc n) p → (sender_step (record s { phase = p }) h).emitted ≡ emission_by (record s { phase = p }) 0 p
    emits_in Rest lasts = absurd lasts
    emits_in Waiting lasts = absurd lasts
    emits_in (Sending start hit) lasts = emits_on s h start hit (past (end_of s start hit) s.t (omega (arith, lasts)))
    emits_in (Backoff until) lasts = absurd lasts

-- in a half bit after which it doesn't send a sender emitted Idle
silent_symbol : (octets : List ℕ) (t : ℕ) (p : Phase) (c : Bool) → is_sending (phase_after t p c) ≡ false → symbol_emitted octets t p c ≡ Idle
unfolding symbol_emitted
silent_symbol octets t Rest c e = refl
silent_symbol octets t Waiting c e = refl
silent_symbol octets t (Sending start hit) c e = absurd (cc)
silent_symbol octets t (Backoff until) c e = refl

silent_from : (b : Sender) (c : Bool) → is_sending (emitting b c).phase ≡ false → emitted_from b b.phase c ≡ Idle
unfolding emitting
silent_from b c e = silent_symbol (frame_at b.queue b.place) b.t b.phase c e

pub silent_emits : (s : Sender) (h : Sym) → is_sending (sender_step s h).state.phase ≡ false → (sender_step s h).emitted ≡ Idle
unfolding sender_step
silent_emits s h after = silent_from (after_turn (promoted (finished s)) (is_signal h)) (is_signal h) after

-- of a sending that is under way, as many half bits fewer are left after so many in which nothing happens
fewer_left : (s : Sender) (n m : ℕ) (p : Phase) → m ≤ n → IsSendingFor s n p → IsSendingFor s m p
fewer_left s n m Rest few lasts = lasts
fewer_left s n m Waiting few lasts = lasts
fewer_left s n m (Sending start hit) few lasts = omega (arith, few, lasts)
fewer_left s n m (Backoff until) few lasts = lasts

no_more : (s : Sender) (p : Phase) → is_sending p ≡ true → IsSendingFor s 0 p
no_more s Rest e = absurd (cc)
no_more s Waiting e = absurd (cc)
no_more s (Sending start hit) e = omega arith
no_more s (Backoff until) e = absurd (cc)

is_under_way : (s : Sender) (n : ℕ) (p : Phase) → IsSendingFor s n p → is_sending p ≡ true
is_under_way s n Rest lasts = absurd lasts
is_under_way s n Waiting lasts = absurd lasts
is_under_way s n (Sending start hit) lasts = refl
is_under_way s n (Backoff until) lasts = absurd lasts

left_after : (hs : List Sym) (s : Sender) (n m : ℕ) → AreCalm s hs → m ≤ n - length hs → is_sending s.phase ≡ true → IsSendingFor s n s.phase → IsSendingFor (after_all s hs) m (after_all s hs).phase
left_after [] s n m calm few sending lasts = fewer_left s n m s.phase (omega (arith, few)) lasts
left_after (h ∷ hs) s zero m calm few sending lasts =
    let next = (sender_step s h).state in
    let on : is_sending next.phase ≡ true = ap is_sending calm.0.same_phase ∙ sending in
    left_after hs next 0 m calm.1 (omega (arith, few)) on (no_more next next.phase on)
left_after (h ∷ hs) s (suc n) m calm few sending lasts =
    let next = (sender_step s h).state in
    let on : is_sending next.phase ≡ true = ap is_sending calm.0.same_phase ∙ sending in
    left_after hs next n m calm.1 (omega (arith, few)) on (same_lasts s h n sending calm.0.same_phase lasts)

pub sending_left : (s s' : Sender) (carrier : Bool) (hs : List Sym) (n m least : ℕ) → AllHeardAs carrier hs → length hs ≤ least → IsCalmAs least carrier s →
    s' ≡ after_all s hs → m ≤ n - length hs → IsSendingFor s n s.phase → IsSendingFor s' m s'.phase
sending_left s s' carrier hs n m least heard few calm sent size lasts =
    subst (λ x. IsSendingFor x m x.phase) (sym sent) (left_after hs s n m (calm.calm hs heard few) size (is_under_way s n s.phase lasts) lasts)
