-- A leap, or a piece of a reception, leaves what its steps leave one by one, and has no row.
use Rattle.std.proofs.Common.{◌≡◌, ℕ, zero, suc, ◌+◌, ◌<◌, Bool, true, false, None, List, [], ◌∷◌, length, replicate, refl, sym, ap, ap₂, subst, ◌∙◌, arith, All}
use Rattle.std.specs.Prelude.{if◌then◌else◌}
use Rattle.std.proofs.lemmas.List.{nil_from_length}
use Rattle.manchester_line.specs.declared.Sym.{Sym}
use Rattle.manchester_line.specs.declared.Sym.TheVariants.{Idle, Hi, Lo, Clash}
use Rattle.manchester_line.specs.Decoding.{Decoding}
use Rattle.mac_receive.specs.Receiver.{Receiving, receiver_step, receiver_after, receiver_bodies, with_event, quiet, reception_ended, extended}
use Rattle.mac_receive.specs.KeptReceiver.{KeptReception, Hears, decoder_fed, decoder_fed_all, kept_more, stepped}
use Rattle.mac_receive.proofs.StepsKeepMeaning.{hears_next, idle_state}

abbrev stepped_all : KeptReception → List Sym → Bool → KeptReception
stepped_all k [] sending = k
stepped_all k (s ∷ ss) sending = stepped_all (stepped k s sending) ss sending

hears_all : (xs : List Sym) (r : Receiving) (k : KeptReception) (sending : Bool) → Hears r k → Hears (receiver_after r xs sending) (stepped_all k xs sending)
hears_all [] r k sending h = h
hears_all (s ∷ ss) r k sending h = hears_all ss (receiver_step r s sending).state (stepped k s sending) sending (hears_next r k s sending h)

-- a receiver that is deaf or not, has no reception under way, and has made m steps
abbrev still_at : KeptReception → Bool → ℕ → KeptReception
still_at k deaf m = record { lose = k.lose; most = k.most; deaf = deaf; halves = 0; decoder = k.decoder; steps = m }

quiet_all : (n : ℕ) (k : KeptReception) (m : ℕ) → stepped_all (still_at k false m) (replicate n Idle) false ≡ still_at k false (m + n)
quiet_all zero k m = let e : m ≡ m + 0 = omega arith in ap (still_at k false) e
quiet_all (suc n) k m = let e : m + 1 + n ≡ m + suc n = omega arith in quiet_all n k (m + 1) ∙ ap (still_at k false) e

sending_all : (xs : List Sym) (k : KeptReception) (m : ℕ) → stepped_all (still_at k true m) xs true ≡ still_at k true (m + length xs)
sending_all [] k m = let e : m ≡ m + 0 = omega arith in ap (still_at k true) e
sending_all (s ∷ ss) k m = let e : m + 1 + length ss ≡ m + suc (length ss) = omega arith in sending_all ss k (m + 1) ∙ ap (still_at k true) e

pub to_hears : (r : Receiving) (k k' : KeptReception) → k ≡ k' → Hears r k → Hears r k'
to_hears r k k' e h = let P : KeptReception → Type 0 = λ x. Hears r x in subst P e h

pub leapt_quiet : (n : ℕ) (r : Receiving) (k k' : KeptReception) → 0 < n → k' ≡ still_at k false (k.steps + n) → Hears r k → Hears (receiver_after r (replicate n Idle) false) k'
leapt_quiet zero r k k' p e h = absurd (omega (arith, p))
leapt_quiet (suc n) r k k' p e h =
    let steps : k.steps + 1 + n ≡ k.steps + suc n = omega arith in
    to_hears _ _ k' (quiet_all n k (k.steps + 1) ∙ ap (still_at k false) steps ∙ sym e) (hears_all (replicate (suc n) Idle) r k false h)

pub leapt_sending : (xs : List Sym) (r : Receiving) (k k' : KeptReception) → 0 < length xs → k' ≡ still_at k true (k.steps + length xs) → Hears r k → Hears (receiver_after r xs true) k'
leapt_sending [] r k k' p e h = absurd (omega (arith, p))
leapt_sending (s ∷ ss) r k k' p e h =
    let steps : k.steps + 1 + length ss ≡ k.steps + suc (length ss) = omega arith in
    to_hears _ _ k' (sending_all ss k (k.steps + 1) ∙ ap (still_at k true) steps ∙ sym e) (hears_all (s ∷ ss) r k true h)

-- a receiver that isn't deaf after more half bits of a reception
abbrev taken : KeptReception → List Sym → KeptReception
taken k xs = record { lose = k.lose; most = k.most; deaf = false; halves = k.halves + length xs; decoder = decoder_fed_all k.lose k.halves k.decoder xs; steps = k.steps + length xs }

abbrev awake : KeptReception → Sym → KeptReception
awake k s = record { lose = k.lose; most = k.most; deaf = false; halves = k.halves + 1; decoder = decoder_fed k.lose k.halves k.decoder s; steps = k.steps + 1 }

awake_step : (k : KeptReception) (s : Sym) → k.deaf ≡ false → (if k.deaf then record k { steps = k.steps + 1 } else record (kept_more k s) { steps = k.steps + 1 }) ≡ awake k s
awake_step k s d =
    ap (λ t. if t then record k { steps = k.steps + 1 } else record (kept_more k s) { steps = k.steps + 1 }) d
    ∙ ap (λ t. record (awake k s) { deaf = t }) d

step_signal : (k : KeptReception) (s : Sym) → k.deaf ≡ false → (s ≡ Idle → ⊥) → stepped k s false ≡ awake k s
step_signal k Idle d h = absurd (h refl)
step_signal k Hi d h = awake_step k Hi d
step_signal k Lo d h = awake_step k Lo d
step_signal k Clash d h = awake_step k Clash d

pub same_kept : (lose most n n' m m' : ℕ) (d d' : Bool) (x x' : Decoding) → d ≡ d' → n ≡ n' → x ≡ x' → m ≡ m' →
    ◌≡◌ {A = KeptReception} (record { lose = lose; most = most; deaf = d; halves = n; decoder = x; steps = m }) (record { lose = lose; most = most; deaf = d'; halves = n'; decoder = x'; steps = m' })
same_kept lose most n n' m m' d d' x x' ed en ex em = rw (ed, en, ex, em)

take_signals : (xs : List Sym) (k : KeptReception) → k.deaf ≡ false → All (λ s. s ≡ Idle → ⊥) xs → stepped_all k xs false ≡ taken k xs
take_signals [] k d h = let none : k.halves ≡ k.halves + 0 = omega arith in
    let same : k.steps ≡ k.steps + 0 = omega arith in
    same_kept k.lose k.most _ _ _ _ _ _ k.decoder k.decoder d none refl same
take_signals (s ∷ ss) k d h =
    let one : k.halves + 1 + length ss ≡ k.halves + suc (length ss) = omega arith in
    let two : k.steps + 1 + length ss ≡ k.steps + suc (length ss) = omega arith in
    ap (λ x. stepped_all x ss false) (step_signal k s d (h 0 Idle (omega arith)))
    ∙ take_signals ss (awake k s) refl (λ i e p. h (suc i) e (omega (arith, p)))
    ∙ same_kept k.lose k.most _ _ _ _ false false (decoder_fed_all k.lose (k.halves + 1) (decoder_fed k.lose k.halves k.decoder s) ss) _ refl one refl two

pub took : (xs : List Sym) (r : Receiving) (k k' : KeptReception) → k.deaf ≡ false → All (λ s. s ≡ Idle → ⊥) xs → k' ≡ taken k xs → Hears r k → Hears (receiver_after r xs false) k'
took xs r k k' d all e h = to_hears _ _ k' (take_signals xs k d all ∙ sym e) (hears_all xs r k false h)

-- nothing happens in a leap
pub bodies_sending : (xs : List Sym) (r : Receiving) → receiver_bodies r xs true ≡ []
bodies_sending [] r = refl
bodies_sending (s ∷ ss) r = bodies_sending ss (receiver_step r s true).state

quiet_event : (r : Receiving) (d : Bool) (hs : List Sym) → hs ≡ [] → (if d then quiet (record r { deaf = false; halves = [] }) else reception_ended r hs).event ≡ None
quiet_event r true hs e = refl
quiet_event r false [] e = refl
quiet_event r false (s ∷ ss) e = let len : suc (length ss) ≡ 0 = ap length e in absurd (omega (arith, len))

bodies_idle : (n : ℕ) (r : Receiving) → r.halves ≡ [] → receiver_bodies r (replicate n Idle) false ≡ []
bodies_idle zero r e = refl
bodies_idle (suc n) r e =
    ap₂ with_event (quiet_event r r.deaf r.halves e)
    (ap (λ x. receiver_bodies x (replicate n Idle) false) (idle_state r r.deaf r.halves refl refl) ∙ bodies_idle n (record r { deaf = false; halves = [] }) refl)

pub bodies_quiet : (n : ℕ) (r : Receiving) (k : KeptReception) → k.halves ≡ 0 → Hears r k → receiver_bodies r (replicate n Idle) false ≡ []
bodies_quiet n r k z h = bodies_idle n r (nil_from_length r.halves (sym h.count ∙ z))

signal_event : (r : Receiving) (s : Sym) (d : Bool) → (if d then quiet r else extended r s).event ≡ None
signal_event r s true = refl
signal_event r s false = refl

received_signal : (r : Receiving) (s : Sym) → (s ≡ Idle → ⊥) → (receiver_step r s false).event ≡ None
received_signal r Idle h = absurd (h refl)
received_signal r Hi h = signal_event r Hi r.deaf
received_signal r Lo h = signal_event r Lo r.deaf
received_signal r Clash h = signal_event r Clash r.deaf

pub bodies_take : (xs : List Sym) (r : Receiving) → All (λ s. s ≡ Idle → ⊥) xs → receiver_bodies r xs false ≡ []
bodies_take [] r h = refl
bodies_take (s ∷ ss) r h = ap₂ with_event (received_signal r s (h 0 Idle (omega arith))) (bodies_take ss (receiver_step r s false).state (λ i e p. h (suc i) e (omega (arith, p))))

-- a deaf receiver that hears carrier stays as it is
deaf_step : (r : Receiving) (s : Sym) → r.deaf ≡ true → (if r.deaf then quiet r else extended r s).state ≡ r
deaf_step r s d = ap (λ t. (if t then quiet r else extended r s).state) d

deaf_signal : (r : Receiving) (s : Sym) → r.deaf ≡ true → (s ≡ Idle → ⊥) → (receiver_step r s false).state ≡ r
deaf_signal r Idle d h = absurd (h refl)
deaf_signal r Hi d h = deaf_step r Hi d
deaf_signal r Lo d h = deaf_step r Lo d
deaf_signal r Clash d h = deaf_step r Clash d

deaf_all : (xs : List Sym) (r : Receiving) → r.deaf ≡ true → All (λ s. s ≡ Idle → ⊥) xs → receiver_after r xs false ≡ r
deaf_all [] r d h = refl
deaf_all (s ∷ ss) r d h =
    ap (λ x. receiver_after x ss false) (deaf_signal r s d (h 0 Idle (omega arith)))
    ∙ deaf_all ss r d (λ i e p. h (suc i) e (omega (arith, p)))

-- so what is kept, but for the number of steps, stands for it as before
pub leapt_deaf : (xs : List Sym) (r : Receiving) (k : KeptReception) (m : ℕ) → k.deaf ≡ true → All (λ s. s ≡ Idle → ⊥) xs → Hears r k → Hears (receiver_after r xs false) (record k { steps = m })
leapt_deaf xs r k m d all h =
    let P : Receiving → Type 0 = λ x. Hears x (record k { steps = m }) in
    subst P (sym (deaf_all xs r (sym h.same_deaf ∙ d) all))
    (record { same_lose = h.same_lose; same_most = h.same_most; same_deaf = h.same_deaf; count = h.count; decodes = h.decodes })
