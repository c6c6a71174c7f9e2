-- A receiver that reads a reception late stands for the same receivers as one that reads it at once.
use Rattle.std.proofs.Common.{◌≡◌, ℕ, zero, suc, ◌+◌, ◌<◌, ◌≤◌, Bool, true, false, Option, Some, None, List, [], ◌∷◌, ◌++◌, length, take, replicate, length-take-le, refl, sym, ap, ap₂, subst, ◌∙◌, arith}
use Rattle.std.specs.Prelude.{if◌then◌else◌}
use Rattle.std.proofs.lemmas.Bool.{true≢false}
use Rattle.std.proofs.lemmas.List.{append-nil}
use Rattle.manchester_line.specs.declared.Sym.{Sym}
use Rattle.manchester_line.specs.declared.Sym.TheVariants.{Idle, Hi, Lo, Clash}
use Rattle.manchester_line.specs.Decoding.{new_decoding, all_pushed}
use Rattle.manchester_line.specs.Line.{is_signal}
use Rattle.collision_log.specs.declared.row.Row.{Row}
use Rattle.collision_log.specs.declared.row.Body.{Body}
use Rattle.mac_receive.specs.Receiver.{Receiving, new_receiving, quiet, extended, left_halves, receiver_step, receiver_after, receiver_bodies, with_event}
use Rattle.mac_receive.specs.KeptReceiver.{KeptReception, Hears, IsReceiver, stepped}
use Rattle.mac_receive.proofs.StepsKeepMeaning.{hears_next, idle_state}
use Rattle.network.specs.declared.outputs.Taken.{Taken}
use Rattle.network.specs.Captures.{taken_by}
use Rattle.network.specs.Rows.{row_of}
use Rattle.window_room.specs.NeededRoom.{Covers, Demand, both_demands, reception_demand, receiver_demand}
use Rattle.window_room.specs.Rooms.{Room, captures_with}
use Rattle.window_room.proofs.PaidRoom.{paid}
use Rattle.reception_laws.specs.LateReceptions.{IsAtRest, text_kept, with_text}
use Rattle.reception_laws.specs.WholeReceptions.{IsAllSignal}
use Rattle.reception_laws.proofs.ReceptionsHeard.{with_halves, new_awaits, text_on}

abbrev stepped_all : KeptReception → List Sym → KeptReception
stepped_all k [] = k
stepped_all k (s ∷ ss) = stepped_all (stepped k s false) ss

hears_all : (xs : List Sym) (r : Receiving) (k : KeptReception) → Hears r k → Hears (receiver_after r xs false) (stepped_all k xs)
hears_all [] r k h = h
hears_all (s ∷ ss) r k h = hears_all ss (receiver_step r s false).state (stepped k s false) (hears_next r k s false h)

-- what is kept of one reception under way stands for the same receivers
pub hears_alike : (q r : Receiving) (k k' : KeptReception) → Hears q k → Hears q k' → Hears r k → Hears r k'
hears_alike q r k k' a b h =
    let some : 0 < length r.halves → 0 < length q.halves = λ p. omega (arith, a.count, h.count, p) in
    record {
      same_lose = b.same_lose ∙ sym a.same_lose ∙ h.same_lose;
      same_most = b.same_most ∙ sym a.same_most ∙ h.same_most;
      same_deaf = b.same_deaf ∙ sym a.same_deaf ∙ h.same_deaf;
      count = b.count ∙ sym a.count ∙ h.count;
      decodes = λ p. b.decodes (some p) ∙ sym (a.decodes (some p)) ∙ h.decodes p;
    }

-- what is kept of a text stands for a receiver that has it as its reception under way
pub text_hears : (lose most n : ℕ) (text : List Sym) → Hears (with_halves lose most text) (text_kept lose most text n)
text_hears lose most n text = record { same_lose = refl; same_most = refl; same_deaf = refl; count = refl; decodes = λ p. refl }

rest_hears : (k : KeptReception) → IsAtRest k → Hears (with_halves k.lose k.most []) k
rest_hears k rest = record { same_lose = refl; same_most = refl; same_deaf = rest.hearing; count = rest.none; decodes = λ p. absurd (omega (arith, p)) }

pub with_some : (k : KeptReception) (text : List Sym) → 0 < length text → with_text k text ≡ text_kept k.lose k.most text (k.steps + length text)
with_some k [] p = absurd (omega (arith, p))
with_some k (s ∷ ss) p = refl

-- with a text or without one it stands for a receiver with that text
pub late_hears : (k : KeptReception) (text : List Sym) → IsAtRest k → Hears (with_halves k.lose k.most text) (with_text k text)
late_hears k [] rest = rest_hears k rest
late_hears k (s ∷ ss) rest = text_hears k.lose k.most (k.steps + length (s ∷ ss)) (s ∷ ss)

-- so it does after more of the text
pub late_more : (k : KeptReception) (text piece : List Sym) (r : Receiving) → IsAtRest k → IsAllSignal piece → Hears r (with_text k text) → Hears (receiver_after r piece false) (with_text k (text ++ piece))
late_more k text [] r rest all h = let P : List Sym → Type 0 = λ xs. Hears r (with_text k xs) in subst P (sym (append-nil text)) h
late_more k text (p ∷ ps) r rest all h =
    let piece : List Sym = p ∷ ps in
    let whole = with_halves k.lose k.most (text ++ piece) in
    let on : receiver_after (with_halves k.lose k.most text) piece false ≡ whole = text_on (new_receiving k.lose k.most) text piece (new_awaits k.lose k.most) all in
    let P : Receiving → Type 0 = λ q. Hears q (stepped_all (with_text k text) piece) in
    hears_alike whole (receiver_after r piece false) (stepped_all (with_text k text) piece) (with_text k (text ++ piece))
    (subst P on (hears_all piece (with_halves k.lose k.most text) (with_text k text) (late_hears k text rest)))
    (late_hears k (text ++ piece) rest)
    (hears_all piece r (with_text k text) h)

-- once the text is read it stands for the same receivers
pub late_read : (k k' : KeptReception) (text : List Sym) (r : Receiving) → IsAtRest k → IsAllSignal text → ((q : Receiving) → Hears q k → Hears (receiver_after q text false) k') → Hears r (with_text k text) → Hears r k'
late_read k k' [] r rest all read h = read r h
late_read k k' (s ∷ ss) r rest all read h =
    let text : List Sym = s ∷ ss in
    let q = with_halves k.lose k.most text in
    let on : receiver_after (with_halves k.lose k.most []) text false ≡ q = text_on (new_receiving k.lose k.most) [] text (new_awaits k.lose k.most) all in
    let P : Receiving → Type 0 = λ x. Hears x k' in
    hears_alike q r (with_text k text) k' (late_hears k text rest) (subst P on (read (with_halves k.lose k.most []) (rest_hears k rest))) h

-- it is at rest where none of its reception is read
pub rest_of : (k : KeptReception) (text : List Sym) → (0 < length text → IsAtRest k) → k.halves ≡ 0 → (with_text k text).deaf ≡ false → IsAtRest k
rest_of k [] late none awake = record { hearing = awake; none = none }
rest_of k (s ∷ ss) late none awake = late (omega arith)

pub late_steps : (k : KeptReception) (text : List Sym) → (with_text k text).steps ≡ k.steps + length text
late_steps k [] = omega arith
late_steps k (s ∷ ss) = refl

pub late_halves : (k : KeptReception) (text : List Sym) → (0 < length text → IsAtRest k) → (with_text k text).halves ≡ k.halves + length text
late_halves k [] late = omega arith
late_halves k (s ∷ ss) late = let none : k.halves ≡ 0 = (late (omega arith)).none in omega (arith, none)

pub late_lose : (k : KeptReception) (text : List Sym) → (with_text k text).lose ≡ k.lose
late_lose k [] = refl
late_lose k (s ∷ ss) = refl

pub late_most : (k : KeptReception) (text : List Sym) → (with_text k text).most ≡ k.most
late_most k [] = refl
late_most k (s ∷ ss) = refl

pub late_deaf : (k : KeptReception) (text : List Sym) → (0 < length text → IsAtRest k) → (with_text k text).deaf ≡ k.deaf
late_deaf k [] late = refl
late_deaf k (s ∷ ss) late = sym (late (omega arith)).hearing

-- what is dropped leaves nothing but whether it is deaf
pub still_hears : (r : Receiving) (k k' : KeptReception) (d : Bool) → Hears r k → k'.lose ≡ k.lose → k'.most ≡ k.most → k'.deaf ≡ d → k'.halves ≡ 0 → Hears (record r { deaf = d; halves = [] }) k'
still_hears r k k' d h lose most deaf none =
    record {
      same_lose = lose ∙ h.same_lose;
      same_most = most ∙ h.same_most;
      same_deaf = deaf;
      count = none;
      decodes = λ p. absurd (omega (arith, p));
    }

signal_limits : (r : Receiving) (s : Sym) (d : Bool) → ((if d then quiet r else extended r s).state.lose ≡ r.lose) × ((if d then quiet r else extended r s).state.most ≡ r.most)
signal_limits r s true = (refl, refl)
signal_limits r s false = (refl, refl)

step_limits : (r : Receiving) (s : Sym) (sending : Bool) → ((receiver_step r s sending).state.lose ≡ r.lose) × ((receiver_step r s sending).state.most ≡ r.most)
step_limits r s true = (refl, refl)
step_limits r Idle false = (ap (λ (x : Receiving). x.lose) (idle_state r r.deaf r.halves refl refl), ap (λ (x : Receiving). x.most) (idle_state r r.deaf r.halves refl refl))
step_limits r Hi false = signal_limits r Hi r.deaf
step_limits r Lo false = signal_limits r Lo r.deaf
step_limits r Clash false = signal_limits r Clash r.deaf

-- a receiver goes on losing as many bits and taking as many octets
pub after_limits : (xs : List Sym) (r : Receiving) (sending : Bool) → ((receiver_after r xs sending).lose ≡ r.lose) × ((receiver_after r xs sending).most ≡ r.most)
after_limits [] r sending = (refl, refl)
after_limits (s ∷ ss) r sending =
    let one = step_limits r s sending in
    let rest = after_limits ss (receiver_step r s sending).state sending in
    (rest.0 ∙ one.0, rest.1 ∙ one.1)

-- what goes on of what is kept, where the receiver does so by these half bits: its limits, and that it stands for a receiver
pub goes_on : (xs : List Sym) (sending : Bool) (k k' : KeptReception) → IsReceiver k → ((r : Receiving) → Hears r k → Hears (receiver_after r xs sending) k') → (k'.lose ≡ k.lose) × (k'.most ≡ k.most) × IsReceiver k'
goes_on xs sending k k' one on =
    let q = one.0 in
    let before : Hears q k = one.1 in
    let after : Hears (receiver_after q xs sending) k' = on q before in
    let limits = after_limits xs q sending in
    (after.same_lose ∙ limits.0 ∙ sym before.same_lose, after.same_most ∙ limits.1 ∙ sym before.same_most, (receiver_after q xs sending, after))

-- the first half bit with sending leaves nothing but that it is deaf
pub sent_after : (xs : List Sym) (r : Receiving) → 0 < length xs → receiver_after r xs true ≡ record r { deaf = true; halves = [] }
sent_after [] r p = absurd (omega (arith, p))
sent_after (s ∷ []) r p = refl
sent_after (s ∷ t ∷ ss) r p = sent_after (t ∷ ss) (record r { deaf = true; halves = [] }) (omega arith)

-- so do half bits of Idle: nothing is left of a reception
pub idle_after_all : (n : ℕ) (r : Receiving) → receiver_after r (replicate (suc n) Idle) false ≡ record r { deaf = false; halves = [] }
idle_after_all zero r = idle_state r r.deaf r.halves refl refl
idle_after_all (suc n) r =
    ap (λ x. receiver_after x (replicate (suc n) Idle) false) (idle_state r r.deaf r.halves refl refl)
    ∙ idle_after_all n (record r { deaf = false; halves = [] })

-- what stands for a receiver that has a text stands for one that has it after any half bits
pub text_of : (k : KeptReception) (text : List Sym) (lose most : ℕ) (r : Receiving) → 0 < length text → k.lose ≡ lose → k.most ≡ most → Hears r (with_text k text) → Hears r (text_kept lose most text 0)
text_of k [] lose most r p el em h = absurd (omega (arith, p))
text_of k (s ∷ ss) lose most r p el em h =
    record {
      same_lose = sym el ∙ h.same_lose;
      same_most = sym em ∙ h.same_most;
      same_deaf = h.same_deaf;
      count = h.count;
      decodes = λ q. ap (λ l. all_pushed new_decoding (left_halves l (s ∷ ss))) (sym el) ∙ h.decodes q;
    }

-- without an unread symbol it keeps what it had
pub read_whole : (k : KeptReception) (symbols : List Sym) (n : ℕ) → n ≡ 0 → with_text k (take n symbols) ≡ k
read_whole k symbols zero e = refl
read_whole k symbols (suc n) e = absurd (omega (arith, e))

none_of : (e : Option Body) → with_event e [] ≡ [] → e ≡ None
none_of None h = refl
none_of (Some b) h = absurd (let n = ap length h in omega (arith, n))

-- a half bit in which nothing ends has no row, takes no capture, and leaves the room that later ones can need
pub no_event : (r : Receiving) (s : Sym) (sending : Bool) → receiver_bodies r (s ∷ []) sending ≡ [] → (receiver_step r s sending).event ≡ None
no_event r s sending h = none_of (receiver_step r s sending).event h

pub no_row : (rows : List Row) (t device : ℕ) (e : Option Body) → e ≡ None → rows ≡ rows ++ row_of t device e
no_row rows t device e is = sym (append-nil rows) ∙ ap (λ x. rows ++ row_of t device x) (sym is)

with_nothing : (k : ℕ) (cs : List (List Taken)) → k < length cs → captures_with k [] cs ≡ cs
with_nothing k [] l = absurd (omega (arith, l))
with_nothing zero (c ∷ cs) l = ap (λ x. x ∷ cs) (append-nil c)
with_nothing (suc k) (c ∷ cs) l = ap (λ x. c ∷ x) (with_nothing k cs (omega (arith, l)))

pub no_capture : (t k : ℕ) (e : Option Body) (os : List ℕ) (cs : List (List Taken)) → k < length cs → e ≡ None → cs ≡ captures_with k (taken_by t e os) cs
no_capture t k e os cs l is = sym (ap (λ x. captures_with k (taken_by t x os) cs) is ∙ with_nothing k cs l)

same_demand : (r : Receiving) (k : KeptReception) (n most : ℕ) → Hears r k → r.most ≡ most → receiver_demand n k ≡ reception_demand most (length r.halves) n
same_demand r k n most h e = ap₂ (λ m c. reception_demand m c n) (h.same_most ∙ e) h.count

pub no_need : (r : Receiving) (k k' : KeptReception) (s : Sym) (sending : Bool) (n : ℕ) (other : Demand) (room : Room) → Hears r k → Hears (receiver_step r s sending).state k' → (receiver_step r s sending).event ≡ None
    → Covers (both_demands other (receiver_demand (suc n) k)) room → Covers (both_demands other (receiver_demand n k')) room
no_need r k k' s sending n other room h h' none a =
    let most = (step_limits r s sending).1 in
    let after : receiver_demand n k' ≡ reception_demand r.most (length (receiver_step r s sending).state.halves) n = same_demand (receiver_step r s sending).state k' n r.most h' most in
    let before : receiver_demand (suc n) k ≡ reception_demand r.most (length r.halves) (suc n) = same_demand r k (suc n) r.most h refl in
    let w = paid r s sending n in
    let b : Covers (both_demands other (reception_demand r.most (length r.halves) (suc n))) room = subst (λ d. Covers (both_demands other d) room) before a in
    subst (λ d. Covers (both_demands other d) room) (sym after)
    (record {
      for_rows = omega (arith, w.fewer_rows, b.for_rows);
      for_frames = omega (arith, w.fewer_frames, b.for_frames);
      for_octets = omega (arith, w.fewer_octets, b.for_octets);
    })

-- where it reads a reception half bit by half bit, no symbol of it is unread
pub none_unread : (k : KeptReception) (n : ℕ) → (0 < n → IsAtRest k) → 0 < k.halves → n ≡ 0
none_unread k zero late some = refl
none_unread k (suc n) late some = let none : k.halves ≡ 0 = (late (omega arith)).none in absurd (omega (arith, none, some))

-- the unread symbols
pub unread_length : (symbols : List Sym) (n most : ℕ) → length symbols ≡ most → n ≤ most → length (take n symbols) ≡ n
unread_length symbols n most size few = length-take-le n symbols (omega (arith, size, few))

pub unread_rest : (k : KeptReception) (symbols : List Sym) (n : ℕ) → (0 < n → IsAtRest k) → 0 < length (take n symbols) → IsAtRest k
unread_rest k symbols zero late p = absurd (omega (arith, p))
unread_rest k symbols (suc n) late p = late (omega arith)

pub unread_deaf : (k : KeptReception) (n : ℕ) → (0 < n → IsAtRest k) → k.deaf ≡ true → n ≡ 0
unread_deaf k zero late deaf = refl
unread_deaf k (suc n) late deaf = absurd (true≢false (sym deaf ∙ (late (omega arith)).hearing))

-- half bits of a signal, for a receiver to which it doesn't matter which
pub hi_all : (n : ℕ) → IsAllSignal (replicate n Hi)
hi_all zero k d p = absurd (omega (arith, p))
hi_all (suc n) zero d p = λ e. true≢false (ap is_signal e)
hi_all (suc n) (suc k) d p = hi_all n k d (omega (arith, p))

pub one_signal : (s : Sym) → (s ≡ Idle → ⊥) → IsAllSignal (s ∷ [])
one_signal s h zero d p = h
one_signal s h (suc k) d p = absurd (omega (arith, p))

signal_event : (r : Receiving) (s : Sym) (d : Bool) → (if d then quiet r else extended r s).event ≡ None
signal_event r s true = refl
signal_event r s false = refl

step_event : (r : Receiving) (s : Sym) → (s ≡ Idle → ⊥) → (receiver_step r s false).event ≡ None
step_event r Idle h = absurd (h refl)
step_event r Hi h = signal_event r Hi r.deaf
step_event r Lo h = signal_event r Lo r.deaf
step_event r Clash h = signal_event r Clash r.deaf

-- while there is carrier no row is written, nor while the station sends
pub signal_bodies : (xs : List Sym) (r : Receiving) → IsAllSignal xs → receiver_bodies r xs false ≡ []
signal_bodies [] r h = refl
signal_bodies (s ∷ ss) r h =
    ap₂ with_event (step_event r s (h 0 Idle (omega arith))) (signal_bodies ss (receiver_step r s false).state (λ i e p. h (suc i) e (omega (arith, p))))

pub sending_bodies : (xs : List Sym) (r : Receiving) → receiver_bodies r xs true ≡ []
sending_bodies [] r = refl
sending_bodies (s ∷ ss) r = sending_bodies ss (record r { deaf = true; halves = [] })

signal_deaf : (r : Receiving) (s : Sym) (d : Bool) → (if d then quiet r else extended r s).state.deaf ≡ r.deaf
signal_deaf r s true = refl
signal_deaf r s false = refl

step_deaf : (r : Receiving) (s : Sym) → r.deaf ≡ false → (receiver_step r s false).state.deaf ≡ false
step_deaf r Idle h = ap (λ (x : Receiving). x.deaf) (idle_state r r.deaf r.halves refl refl)
step_deaf r Hi h = signal_deaf r Hi r.deaf ∙ h
step_deaf r Lo h = signal_deaf r Lo r.deaf ∙ h
step_deaf r Clash h = signal_deaf r Clash r.deaf ∙ h

after_deaf : (xs : List Sym) (r : Receiving) → r.deaf ≡ false → (receiver_after r xs false).deaf ≡ false
after_deaf [] r h = h
after_deaf (s ∷ ss) r h = after_deaf ss (receiver_step r s false).state (step_deaf r s h)

-- without sending it doesn't turn deaf
pub stays_awake : (xs : List Sym) (k k' : KeptReception) → IsReceiver k → k.deaf ≡ false → ((r : Receiving) → Hears r k → Hears (receiver_after r xs false) k') → k'.deaf ≡ false
stays_awake xs k k' one awake on = (on one.0 one.1).same_deaf ∙ after_deaf xs one.0 (sym one.1.same_deaf ∙ awake)
