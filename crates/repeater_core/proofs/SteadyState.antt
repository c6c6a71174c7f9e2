-- The parts of a repeater's state after steady half bits are what their leaps make of them.
use Rattle.std.proofs.Common.{◌≡◌, ◌≢◌, ℕ, zero, suc, ◌+◌, ◌<◌, Bool, true, false, eqb, List, [], ◌∷◌, length, map, drop, get_or, refl, sym, ap, ap₂, subst, ◌∙◌, arith}
use Rattle.std.proofs.lemmas.Bool.Decides.{nat_tests}
use Rattle.std.proofs.lemmas.List.{get_or-map, length-map}
use Rattle.std.specs.Fn.{iterate}
use Rattle.mac_parameters.specs.Parameters.{jabber_limit}
use Rattle.manchester_line.specs.declared.Sym.{Sym}
use Rattle.manchester_line.specs.declared.Sym.TheVariants as sy
use Rattle.manchester_line.specs.Line.{is_signal}
use Rattle.port_partition.specs.declared.guard.GuardEvent.{GuardEvent}
use Rattle.port_partition.specs.declared.guard.GuardEvent.TheVariants as event
use Rattle.port_partition.specs.Guard.{Guard, event_of, new_guard}
use Rattle.repeater_core.specs.declared.modes.Mode.{Mode}
use Rattle.repeater_core.specs.Modes.{IsMode, wish_of}
use Rattle.repeater_core.specs.Counts.{Count, Choice, choice, choice_awake, choices_from, resting_count}
use Rattle.repeater_core.specs.Delayed.{Delayed, moved_on}
use Rattle.repeater_core.specs.Step.{RepeaterDevice, IsState, mode_next, chosen, after, emitted_by, decided_by, guards_after, guard_events, collides, is_closing, is_opening, mask_from}
use Rattle.repeater_core.specs.Steady.{mode_on, IsSteady, sent_text, texted, Kind, kind_of, kinds_of, at_each, guard_by, count_by, line_later, HaveNoEvents, IsSentFor, AreSentFor}
use Rattle.repeater_core.proofs.SendsToOthers.{choose}
use Rattle.repeater_core.proofs.CalmIsExact.{same_state, length_emitted}
use Rattle.repeater_core.proofs.Lawful.{step_state, length_guards, length_choices}
use Rattle.repeater_core.proofs.SteadyHalfBits.{each_later, not_one, decides_text, steady_later, steady_is}
use Rattle.repeater_core.proofs.SteadyLeap.{run_for, kind_is}

-- the events of guards
abbrev pub events_by : List Kind → List Guard → List GuardEvent
events_by (k ∷ ks) (g ∷ gs) = event_of g k.hears k.clash ∷ events_by ks gs
events_by _ _ = []

event_kind : (g : Guard) (h e : Sym) → event_of g (is_signal h) (collides h e) ≡ event_of g (kind_of h (is_signal e)).hears (kind_of h (is_signal e)).clash
event_kind g sy.Idle e = refl
event_kind g sy.Hi e = refl
event_kind g sy.Lo e = refl
event_kind g sy.Clash e = refl

pub events_by_kind : (gs : List Guard) (hs es : List Sym) → guard_events gs hs es ≡ events_by (kinds_of hs (map is_signal es)) gs
events_by_kind [] [] es = refl
events_by_kind [] (h ∷ hs) [] = refl
events_by_kind [] (h ∷ hs) (e ∷ es) = refl
events_by_kind (g ∷ gs) [] es = refl
events_by_kind (g ∷ gs) (h ∷ hs) [] = refl
events_by_kind (g ∷ gs) (h ∷ hs) (e ∷ es) = ap₂ ◌∷◌ (event_kind g h e) (events_by_kind gs hs es)

none_of : (x : GuardEvent) → is_closing x ≡ false → is_opening x ≡ false → x ≡ event.None
none_of event.None c o = refl
none_of event.Closed c o = absurd (cc)
none_of event.Opened c o = absurd (cc)

no_events : (n p q : ℕ) (ks : List Kind) (gs : List Guard) (kd : Kind) (d : Guard) → length ks ≡ length gs → q < length gs
    → ((k : ℕ) → k < n → mask_from p (map is_closing (events_by ks (at_each (λ x g. iterate (guard_by x) k g) ks gs))) ≡ 0)
    → ((k : ℕ) → k < n → mask_from p (map is_opening (events_by ks (at_each (λ x g. iterate (guard_by x) k g) ks gs))) ≡ 0)
    → (k : ℕ) → k < n → event_of (iterate (guard_by (get_or ks q kd)) k (get_or gs q d)) (get_or ks q kd).hears (get_or ks q kd).clash ≡ event.None
no_events n p q ks [] kd d l m c o = absurd (omega arith)
no_events n p q [] (g ∷ gs) kd d l m c o = absurd (omega arith)
no_events n p zero (x ∷ ks) (g ∷ gs) kd d l m c o = λ k b. none_of _ (not_one _ p _ (c k b)).0 (not_one _ p _ (o k b)).0
no_events n p (suc q) (x ∷ ks) (g ∷ gs) kd d l m c o =
    no_events n (p + 1) q ks gs kd d (omega arith) (omega arith) (λ k b. (not_one _ p _ (c k b)).1) (λ k b. (not_one _ p _ (o k b)).1)

pub kinds_length : (hs es : List Sym) → length es ≡ length hs → length (kinds_of hs (map is_signal es)) ≡ length hs
kinds_length [] es l = refl
kinds_length (h ∷ hs) [] l = absurd (omega arith)
kinds_length (h ∷ hs) (e ∷ es) l = ap suc (kinds_length hs es (omega arith))

kinds_at : (q : ℕ) (hs es : List Sym) (kd : Kind) → q < length hs → length es ≡ length hs → get_or (kinds_of hs (map is_signal es)) q kd ≡ kind_of (get_or hs q sy.Idle) (is_signal (get_or es q sy.Idle))
kinds_at q [] es kd l m = absurd (omega arith)
kinds_at q (h ∷ hs) [] kd l m = absurd (omega arith)
kinds_at zero (h ∷ hs) (e ∷ es) kd l m = refl
kinds_at (suc q) (h ∷ hs) (e ∷ es) kd l m = kinds_at q hs es kd (omega arith) (omega arith)

guards_calm : (n : ℕ) (hs es : List Sym) (gs : List Guard) → length hs ≡ length gs → length es ≡ length gs
    → ((k : ℕ) → k < n → mask_from 0 (map is_closing (events_by (kinds_of hs (map is_signal es)) (at_each (λ x g. iterate (guard_by x) k g) (kinds_of hs (map is_signal es)) gs))) ≡ 0)
    → ((k : ℕ) → k < n → mask_from 0 (map is_opening (events_by (kinds_of hs (map is_signal es)) (at_each (λ x g. iterate (guard_by x) k g) (kinds_of hs (map is_signal es)) gs))) ≡ 0)
    → HaveNoEvents n hs es gs
guards_calm n hs es gs l m c o = λ q b k d.
    let some : Kind = record { hears = false; clash = false; emits = false } in
    let e = kinds_at q hs es some (omega arith) (omega arith) ∙ kind_is (get_or hs q sy.Idle) (get_or es q sy.Idle) in
    subst (λ x. event_of (iterate (guard_by x) k (get_or gs q new_guard)) x.hears x.clash ≡ event.None) e
    (no_events n 0 q (kinds_of hs (map is_signal es)) gs some new_guard (kinds_length hs es (m ∙ sym l) ∙ l) b c o k d)

-- the counts of ports
awake_means : (w : Sym) (c : Count) → is_signal (choice_awake w c).symbol ≡ true → c.run ≢ jabber_limit
awake_means sy.Idle c = λ h. absurd (cc)
awake_means sy.Hi c = choose (λ (x : Choice). is_signal x.symbol ≡ true → c.run ≢ jabber_limit) (eqb c.run jabber_limit) _ _ (λ _ h. absurd (cc)) (λ f h. grind (arith, nat_tests))
awake_means sy.Lo c = choose (λ (x : Choice). is_signal x.symbol ≡ true → c.run ≢ jabber_limit) (eqb c.run jabber_limit) _ _ (λ _ h. absurd (cc)) (λ f h. grind (arith, nat_tests))
awake_means sy.Clash c = choose (λ (x : Choice). is_signal x.symbol ≡ true → c.run ≢ jabber_limit) (eqb c.run jabber_limit) _ _ (λ _ h. absurd (cc)) (λ f h. grind (arith, nat_tests))

signal_means : (w : Sym) (c : Count) → is_signal (choice w c).symbol ≡ true → (c.rest ≡ 0) × (c.run ≢ jabber_limit)
signal_means w c =
    choose (λ (x : Choice). is_signal x.symbol ≡ true → (c.rest ≡ 0) × (c.run ≢ jabber_limit)) (eqb c.rest 0) (choice_awake w c) _
    (λ e h. (let z : c.rest ≡ 0 = grind (arith, nat_tests) in z, awake_means w c h)) (λ _ h. absurd (cc))

sent_for : (n : ℕ) (w : ℕ → Sym) (b : Bool) (c : Count) → 0 < n → ((k : ℕ) → k < n → is_signal (choice (w k) (iterate (count_by b) k c)).symbol ≡ b) → IsSentFor n b c
sent_for n w false c pos h = λ t. absurd (cc)
sent_for n w true c pos h = λ t.
    let z = (signal_means (w 0) c (h 0 pos)).0 in
    (z, λ k l e. (signal_means (w k) (iterate (count_by true) k c) (h k l)).1 (ap (λ (x : Count). x.run) (run_for k c z) ∙ e))

sent_ports : (n q p : ℕ) (ms : ℕ → Mode) (hears : List Sym) (bs : List Bool) (cs : List Count) (d : Count) → 0 < n → length bs ≡ length cs → q < length cs
    → ((k : ℕ) → k < n → map is_signal (map (λ c. c.symbol) (choices_from (ms k) hears p (at_each (λ b c. iterate (count_by b) k c) bs cs))) ≡ bs)
    → IsSentFor n (get_or bs q false) (get_or cs q d)
sent_ports n q p ms hears bs [] d pos l m h = absurd (omega arith)
sent_ports n q p ms hears [] (c ∷ cs) d pos l m h = absurd (omega arith)
sent_ports n zero p ms hears (b ∷ bs) (c ∷ cs) d pos l m h = sent_for n (λ k. wish_of (ms k) hears p) b c pos (λ k x. ap (λ xs. get_or xs 0 false) (h k x))
sent_ports n (suc q) p ms hears (b ∷ bs) (c ∷ cs) d pos l m h = sent_ports n q (p + 1) ms hears bs cs d pos (omega arith) (omega arith) (λ k x. ap (drop 1) (h k x))

-- the state after half bits in which the ports hear the same symbols
pub state_after : (r : RepeaterDevice) (hears : List Sym) → IsState r → length hears ≡ length r.guards → IsState (after hears r)
unfolding mode_next chosen
state_after r hears h l =
    step_state (mode_next hears r) (guards_after r.guards hears (emitted_by r)) (map (λ c. c.count) (chosen hears r)) (moved_on (decided_by hears r) r.line) hears r
    refl (length_guards r.guards hears (emitted_by r) l (length_emitted r h)) refl refl h

pub ports_after : (r : RepeaterDevice) (hears : List Sym) → IsState r → length hears ≡ length r.guards → length (after hears r).guards ≡ length r.guards
ports_after r hears h l = length_guards r.guards hears (emitted_by r) l (length_emitted r h)

pub state_later : (n : ℕ) (r : RepeaterDevice) (hears : List Sym) → IsState r → length hears ≡ length r.guards → IsState (iterate (after hears) n r)
state_later zero r hears h l = h
state_later (suc n) r hears h l = state_later n (after hears r) hears (state_after r hears h l) (l ∙ sym (ports_after r hears h l))

pub ports_later : (n : ℕ) (r : RepeaterDevice) (hears : List Sym) → IsState r → length hears ≡ length r.guards → length (iterate (after hears) n r).guards ≡ length r.guards
ports_later zero r hears h l = refl
ports_later (suc n) r hears h l = ports_later n (after hears r) hears (state_after r hears h l) (l ∙ sym (ports_after r hears h l)) ∙ ports_after r hears h l

-- what the leaps need
pub length_decided : (r : RepeaterDevice) (hears : List Sym) → IsState r → length (decided_by hears r) ≡ length r.guards
unfolding chosen
length_decided r hears h = length-map (chosen hears r) (λ c. c.symbol) ∙ length_choices (mode_next hears r) hears 0 r.counts ∙ h.counts_len

pub at_k : (n k : ℕ) (r : RepeaterDevice) (hears : List Sym) → IsSteady hears r n → k < n → iterate (after hears) k r ≡ steady_later hears (map is_signal (emitted_by r)) (map is_signal (decided_by hears r)) k r
at_k n k r hears s l = steady_is k hears (map is_signal (emitted_by r)) (map is_signal (decided_by hears r)) r (λ i m. s i (omega arith))

pub first_decided : (n : ℕ) (r : RepeaterDevice) (hears : List Sym) → IsSteady hears r n → 0 < n → map (λ c. c.symbol) (choices_from (mode_on r.mode) hears 0 r.counts) ≡ decided_by hears r
unfolding chosen
first_decided n r hears s l = ap (λ m. map (λ c. c.symbol) (choices_from m hears 0 r.counts)) (sym (s 0 l).mode)

guards_at : (n k : ℕ) (r : RepeaterDevice) (hears : List Sym) → IsState r → length hears ≡ length r.guards → IsSteady hears r n → k < n
    → (iterate (after hears) k r).guards ≡ at_each (λ x g. iterate (guard_by x) k g) (kinds_of hears (map is_signal (emitted_by r))) r.guards
guards_at n k r hears h l s b =
    ap (λ (x : RepeaterDevice). x.guards) (at_k n k r hears s b)
    ∙ each_later guard_by k (kinds_of hears (map is_signal (emitted_by r))) r.guards (kinds_length hears (emitted_by r) (length_emitted r h ∙ sym l) ∙ l)

events_at : (n k : ℕ) (r : RepeaterDevice) (hears : List Sym) → IsState r → length hears ≡ length r.guards → IsSteady hears r n → k < n
    → guard_events (iterate (after hears) k r).guards hears (emitted_by (iterate (after hears) k r))
    ≡ events_by (kinds_of hears (map is_signal (emitted_by r))) (at_each (λ x g. iterate (guard_by x) k g) (kinds_of hears (map is_signal (emitted_by r))) r.guards)
events_at n k r hears h l s b =
    events_by_kind (iterate (after hears) k r).guards hears (emitted_by (iterate (after hears) k r))
    ∙ ap₂ (λ bs gs. events_by (kinds_of hears bs) gs) (s k b).emits (guards_at n k r hears h l s b)

pub have_no_events : (n : ℕ) (r : RepeaterDevice) (hears : List Sym) → IsState r → length hears ≡ length r.guards → IsSteady hears r n → HaveNoEvents n hears (emitted_by r) r.guards
have_no_events n r hears h l s =
    guards_calm n hears (emitted_by r) r.guards l (length_emitted r h)
    (λ k b. ap (λ xs. mask_from 0 (map is_closing xs)) (sym (events_at n k r hears h l s b)) ∙ (s k b).none_closes)
    (λ k b. ap (λ xs. mask_from 0 (map is_opening xs)) (sym (events_at n k r hears h l s b)) ∙ (s k b).none_opens)

pub counts_at : (n k : ℕ) (r : RepeaterDevice) (hears : List Sym) → IsState r → IsSteady hears r n → k < n
    → (iterate (after hears) k r).counts ≡ at_each (λ x c. iterate (count_by x) k c) (map is_signal (decided_by hears r)) r.counts
counts_at n k r hears h s b =
    ap (λ (x : RepeaterDevice). x.counts) (at_k n k r hears s b)
    ∙ each_later count_by k (map is_signal (decided_by hears r)) r.counts (length-map (decided_by hears r) is_signal ∙ length_decided r hears h ∙ sym h.counts_len)

pub sent_at_k : (n k : ℕ) (r : RepeaterDevice) (hears : List Sym) → IsState r → IsSteady hears r n → k < n
    → map is_signal (map (λ c. c.symbol) (choices_from (mode_next hears (iterate (after hears) k r)) hears 0 (at_each (λ x c. iterate (count_by x) k c) (map is_signal (decided_by hears r)) r.counts))) ≡ map is_signal (decided_by hears r)
unfolding chosen
sent_at_k n k r hears h s b =
    ap (λ cs. map is_signal (map (λ c. c.symbol) (choices_from (mode_next hears (iterate (after hears) k r)) hears 0 cs))) (sym (counts_at n k r hears h s b)) ∙ (s k b).decides

pub are_sent : (n : ℕ) (r : RepeaterDevice) (hears : List Sym) → IsState r → 0 < n → IsSteady hears r n → AreSentFor n (decided_by hears r) r.counts
are_sent n r hears h pos s = λ q l.
    let lb : length (map is_signal (decided_by hears r)) ≡ length r.counts = length-map (decided_by hears r) is_signal ∙ length_decided r hears h ∙ sym h.counts_len in
    let ld : q < length (decided_by hears r) = (let e = length_decided r hears h in let f = h.counts_len in omega arith) in
    subst (λ b. IsSentFor n b (get_or r.counts q (resting_count 0))) (get_or-map is_signal (decided_by hears r) q sy.Idle false ld)
    (sent_ports n q 0 (λ k. mode_next hears (iterate (after hears) k r)) hears (map is_signal (decided_by hears r)) r.counts (resting_count 0) pos lb l (λ k b. sent_at_k n k r hears h s b))

pub modes_are : (n : ℕ) (r : RepeaterDevice) (hears : List Sym) → IsState r → length hears ≡ length r.guards → IsSteady hears r n → (k : ℕ) → k < n → IsMode (iterate mode_on k r.mode)
modes_are n r hears h l s k b = subst IsMode (ap (λ (x : RepeaterDevice). x.mode) (at_k n k r hears s b)) (state_later k r hears h l).mode_counts

pub texts_at : (k : ℕ) (r : RepeaterDevice) (hears : List Sym) → decided_by hears r ≡ texted (map is_signal (decided_by hears r)) (sent_text (mode_next hears r) hears)
unfolding chosen
texts_at k r hears = decides_text (mode_next hears r) hears 0 r.counts

pub texts_are : (n : ℕ) (r : RepeaterDevice) (hears : List Sym) → IsSteady hears r n → (k : ℕ) → k < n
    → map is_signal (texted (map is_signal (decided_by hears r)) (sent_text (mode_on (iterate mode_on k r.mode)) hears)) ≡ map is_signal (decided_by hears r)
texts_are n r hears s k b =
    let x = iterate (after hears) k r in
    let mode : mode_next hears x ≡ mode_on (iterate mode_on k r.mode) = (s k b).mode ∙ ap (λ (y : RepeaterDevice). mode_on y.mode) (at_k n k r hears s b) in
    ap (map is_signal) (sym (texts_at k x hears ∙ ap₂ (λ bs m. texted bs (sent_text m hears)) (s k b).decides mode)) ∙ (s k b).decides

-- the state after steady half bits, from the parts that the leaps give
pub leapt : (n : ℕ) (r : RepeaterDevice) (hears : List Sym) (mode : Mode) (guards : List Guard) (counts : List Count) (line : Delayed) → IsState r → length hears ≡ length r.guards → IsSteady hears r n
    → mode ≡ iterate mode_on n r.mode → guards ≡ at_each (λ x g. iterate (guard_by x) n g) (kinds_of hears (map is_signal (emitted_by r))) r.guards
    → counts ≡ at_each (λ x c. iterate (count_by x) n c) (map is_signal (decided_by hears r)) r.counts → line ≡ line_later hears (map is_signal (decided_by hears r)) n r.mode r.line
    → ◌≡◌ {A = RepeaterDevice} (record { mode = mode; guards = guards; counts = counts; line = line }) (iterate (after hears) n r)
leapt n r hears mode guards counts line h l s m g c e =
    let emitting = map is_signal (emitted_by r) in
    let deciding = map is_signal (decided_by hears r) in
    same_state (record { mode = mode; guards = guards; counts = counts; line = line }) (steady_later hears emitting deciding n r) m
    (g ∙ sym (each_later guard_by n (kinds_of hears emitting) r.guards (kinds_length hears (emitted_by r) (length_emitted r h ∙ sym l) ∙ l)))
    (c ∙ sym (each_later count_by n deciding r.counts (length-map (decided_by hears r) is_signal ∙ length_decided r hears h ∙ sym h.counts_len)))
    e
    ∙ sym (steady_is n hears emitting deciding r s)
