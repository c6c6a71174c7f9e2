-- Devices that go on from a state, one after another.
use Rattle.std.proofs.Common.{◌≡◌, ℕ, zero, suc, ◌+◌, ◌-◌, ◌<◌, All, List, [], ◌∷◌, ◌++◌, length, get_or, slice_get, map, take, drop, Some, sum_by, length-append, refl, sym, subst, ap, ap₂, ◌∙◌, arith, append_assoc}
use Rattle.std.proofs.lemmas.List.{at_drop_more, drop-drop, map-append, take_more}
use Rattle.std.proofs.lemmas.Option.{get_or_from_slice_get, slice_get_within}
use Rattle.std.proofs.lemmas.List.Sums.{sum_by-drop_more}
use Rattle.std.proofs.lemmas.List.Elements.{All-append}
use Rattle.backoff_draw.specs.Draws.{Drawing}
use Rattle.frame_layout.specs.declared.queue.Ready.{Ready}
use Rattle.layout.specs.declared.lines.RepeaterLine.{RepeaterLine}
use Rattle.mac_transmit.specs.Resuming.{resumed_sender, IsStateOf}
use Rattle.mac_transmit.specs.Sender.{Sender, new_sender}
use Rattle.network.specs.Net.{new_senders}
use Rattle.mac_transmit.specs.declared.state.SenderState.{SenderState}
use Rattle.port_partition.specs.Guard.{Guard}
use Rattle.repeater_core.specs.Step.{RepeaterDevice, resumed_state}
use Rattle.quiet_state.specs.PlanStates.{AreStatesOf}
use Rattle.quiet_state.specs.Resumed.{resumed_repeaters, resumed_senders}

-- one thing more of a list
pub one_more : {X : Type 0} (old before now xs : List X) (k : ℕ) (x : X) → before ≡ old ++ take k xs → slice_get xs k ≡ Some x → now ≡ before ++ x ∷ [] → now ≡ old ++ take (k + 1) xs
one_more old before now xs k x is here more =
    more
    ∙ ap (λ ys. ys ++ x ∷ []) is
    ∙ append_assoc old (take k xs) (x ∷ [])
    ∙ ap (λ ys. old ++ ys) (ap (λ y. take k xs ++ y ∷ []) (sym (get_or_from_slice_get xs k x x here)) ∙ sym (take_more xs k x (slice_get_within xs k x here)))

-- one thing more that is made of each
pub mapped_more : {X Y : Type 0} (f : X → Y) (xs : List X) (k : ℕ) (d : X) (before now : List Y) (y : Y) → k < length xs → before ≡ map f (take k xs) → now ≡ before ++ y ∷ [] → y ≡ f (get_or xs k d) → now ≡ map f (take (k + 1) xs)
mapped_more f xs k d before now y l is more made =
    more
    ∙ ap₂ (λ ys z. ys ++ z ∷ []) is made
    ∙ sym (map-append f (take k xs) (get_or xs k d ∷ []))
    ∙ ap (map f) (sym (take_more xs k d l))

-- one state for each queue
pub many_states : (qs : List (List Ready)) (ss : List SenderState) → AreStatesOf qs ss → length qs ≡ length ss
many_states [] [] h = refl
many_states [] (s ∷ ss) h = absurd h
many_states (q ∷ qs) [] h = absurd h
many_states (q ∷ qs) (s ∷ ss) h = ap suc (many_states qs ss h.1)

pub state_there : (qs : List (List Ready)) (ss : List SenderState) (k : ℕ) (q : List Ready) (s : SenderState) → AreStatesOf qs ss → k < length qs → IsStateOf (get_or qs k q) (get_or ss k s)
state_there [] ss k q s h l = absurd (omega arith)
state_there (x ∷ qs) [] k q s h l = absurd h
state_there (x ∷ qs) (y ∷ ss) zero q s h l = h.0
state_there (x ∷ qs) (y ∷ ss) (suc k) q s h l = state_there qs ss k q s h.1 (omega arith)

-- and so for one that is read and copied
pub state_read : (qs : List (List Ready)) (ss : List SenderState) (k : ℕ) (q copy : List Ready) (s : SenderState) → AreStatesOf qs ss → k < length qs → q ≡ get_or qs k q → copy ≡ q → IsStateOf copy (get_or ss k s)
state_read qs ss k q copy s h l is same = subst (λ (x : List Ready). IsStateOf x (get_or ss k s)) (sym (same ∙ is)) (state_there qs ss k q s h l)

-- one sender more
pub senders_more : (seed t k : ℕ) (qs : List (List Ready)) (ss : List SenderState) (all before now : List Sender) (made : Sender) (q copy : List Ready) (draws : Drawing) (s : SenderState) → k < length qs → k < length ss → q ≡ get_or qs k q
    → before ++ resumed_senders seed t k (drop k qs) (drop k ss) ≡ all → now ≡ before ++ made ∷ [] → made ≡ resumed_sender copy draws t (get_or ss k s) → copy ≡ q → draws ≡ record { seed = seed; station = k; made = (get_or ss k s).drawn }
    → now ++ resumed_senders seed t (k + 1) (drop (k + 1) qs) (drop (k + 1) ss) ≡ all
senders_more seed t k qs ss all before now made q copy draws s hq hs eq h en em ec ed =
    let rest = resumed_senders seed t (k + 1) (drop (k + 1) qs) (drop (k + 1) ss) in
    let sender : List Ready → Sender = λ x. resumed_sender x (record { seed = seed; station = k; made = (get_or ss k s).drawn }) t (get_or ss k s) in
    let is : made ≡ sender q = em ∙ ap₂ (λ (x : List Ready) (d : Drawing). resumed_sender x d t (get_or ss k s)) ec ed in
    let here : resumed_senders seed t k (drop k qs) (drop k ss) ≡ made ∷ rest =
    at_drop_more (λ (xs : List (List Ready)). resumed_senders seed t k xs (drop k ss)) qs k q hq
    ∙ at_drop_more (resumed_senders seed t k (get_or qs k q ∷ drop (k + 1) qs)) ss k s hs
    ∙ ap (λ (x : List Ready). sender x ∷ rest) (sym eq)
    ∙ ap (λ (x : Sender). x ∷ rest) (sym is) in
    ap (λ (xs : List Sender). xs ++ rest) en ∙ append_assoc before (made ∷ []) rest ∙ ap (λ (xs : List Sender). before ++ xs) (sym here) ∙ h

-- the same before half bit 0
pub new_senders_more : (seed k : ℕ) (qs : List (List Ready)) (all before now : List Sender) (made : Sender) (q copy : List Ready) (draws : Drawing) → k < length qs → q ≡ get_or qs k q
    → before ++ new_senders seed k (drop k qs) ≡ all → now ≡ before ++ made ∷ [] → made ≡ new_sender copy draws → copy ≡ q → draws ≡ record { seed = seed; station = k; made = 0 }
    → now ++ new_senders seed (k + 1) (drop (k + 1) qs) ≡ all
new_senders_more seed k qs all before now made q copy draws hq eq h en em ec ed =
    let rest = new_senders seed (k + 1) (drop (k + 1) qs) in
    let sender : List Ready → Sender = λ x. new_sender x (record { seed = seed; station = k; made = 0 }) in
    let is : made ≡ sender q = em ∙ ap₂ new_sender ec ed in
    let here : new_senders seed k (drop k qs) ≡ made ∷ rest =
    at_drop_more (new_senders seed k) qs k q hq
    ∙ ap (λ (x : List Ready). sender x ∷ rest) (sym eq)
    ∙ ap (λ (x : Sender). x ∷ rest) (sym is) in
    ap (λ (xs : List Sender). xs ++ rest) en ∙ append_assoc before (made ∷ []) rest ∙ ap (λ (xs : List Sender). before ++ xs) (sym here) ∙ h

-- what holds of each thing so far and of one more
all_one : {X : Type 0} (P : X → Type 0) (x : X) → P x → All P (x ∷ [])
all_one P x p zero d l = p
all_one P x p (suc i) d l = absurd (omega arith)

pub all_more : {X : Type 0} (P : X → Type 0) (before now : List X) (x : X) → All P before → P x → now ≡ before ++ x ∷ [] → All P now
all_more P before now x h p e = subst (All P) (sym e) (All-append P before (x ∷ []) h (all_one P x p))

pub count_more : {X : Type 0} (before now : List X) (x : X) (k : ℕ) → length before ≡ k → now ≡ before ++ x ∷ [] → length now ≡ k + 1
count_more before now x k h e = omega (arith, ap length e, length-append before (x ∷ []), h)

-- one repeater more, whose ports begin at `from`
pub relays_more : (ls : List RepeaterLine) (gs : List Guard) (ws : List ℕ) (from k n : ℕ) (all before now : List RepeaterDevice) (l : RepeaterLine) → k < length ls → l ≡ get_or ls k l → n ≡ from + length l.ports
    → before ++ resumed_repeaters (drop k ls) (drop from gs) (drop from ws) ≡ all → now ≡ before ++ resumed_state l.delay (take (n - from) (drop from gs)) (take (n - from) (drop from ws)) ∷ []
    → now ++ resumed_repeaters (drop (k + 1) ls) (drop n gs) (drop n ws) ≡ all
relays_more ls gs ws from k n all before now l h e m before_is now_is =
    let many : n - from ≡ length l.ports = omega arith in
    let rest = resumed_repeaters (drop (k + 1) ls) (drop n gs) (drop n ws) in
    let made : ℕ → RepeaterDevice = λ i. resumed_state l.delay (take i (drop from gs)) (take i (drop from ws)) in
    let here : resumed_repeaters (drop k ls) (drop from gs) (drop from ws) ≡ made (n - from) ∷ rest =
    at_drop_more (λ (xs : List RepeaterLine). resumed_repeaters xs (drop from gs) (drop from ws)) ls k l h
    ∙ ap (λ (x : RepeaterLine). resumed_repeaters (x ∷ drop (k + 1) ls) (drop from gs) (drop from ws)) (sym e)
    ∙ ap₂ (λ (xs : List Guard) (ys : List ℕ). made (length l.ports) ∷ resumed_repeaters (drop (k + 1) ls) xs ys)
    (drop-drop (length l.ports) from gs ∙ ap (λ i. drop i gs) (sym m)) (drop-drop (length l.ports) from ws ∙ ap (λ i. drop i ws) (sym m))
    ∙ ap (λ i. made i ∷ rest) (sym many) in
    ap (λ (xs : List RepeaterDevice). xs ++ rest) now_is ∙ append_assoc before (made (n - from) ∷ []) rest ∙ ap (λ (xs : List RepeaterDevice). before ++ xs) (sym here) ∙ before_is

-- how many guards the repeaters from k on have
pub ports_left : (ls : List RepeaterLine) (k : ℕ) (l : RepeaterLine) → k < length ls → l ≡ get_or ls k l → sum_by (λ x. length x.ports) (drop k ls) ≡ length l.ports + sum_by (λ x. length x.ports) (drop (k + 1) ls)
ports_left ls k l h e =
    sum_by-drop_more (λ (x : RepeaterLine). length x.ports) ls k l h ∙ ap (λ (x : RepeaterLine). length x.ports + sum_by (λ (y : RepeaterLine). length y.ports) (drop (k + 1) ls)) (sym e)
