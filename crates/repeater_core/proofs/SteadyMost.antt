-- What steady half bits need of the mode, the ports, the guards and the delay line: no more of them than each tells.
use Rattle.std.proofs.Common.{◌≡◌, ℕ, zero, suc, ◌+◌, ◌-◌, ◌*◌, ◌<◌, ◌≤◌, ◌⊎◌, min, Bool, true, false, eqb, List, [], ◌∷◌, ◌++◌, length, map, take, drop, get_or, refl, sym, ap, ap₂, subst, ◌∙◌, arith, inl, inr}
use Rattle.std.proofs.lemmas.Bool.{cases_eq, cases_lt}
use Rattle.std.proofs.lemmas.Bool.Decides.{nat_tests}
use Rattle.std.proofs.lemmas.List.{length-map}
use Rattle.std.specs.Fn.{iterate}
use Rattle.mac_parameters.specs.Parameters.{jabber_limit}
use Rattle.manchester_line.specs.declared.Sym.{Sym}
use Rattle.manchester_line.specs.declared.Sym.TheVariants as sy
use Rattle.manchester_line.specs.Line.{is_signal}
use Rattle.repeater_core.specs.declared.modes.Mode.{Mode}
use Rattle.repeater_core.specs.declared.modes.Activity.{Activity}
use Rattle.repeater_core.specs.Limits.{most_calm}
use Rattle.repeater_core.specs.Modes.{activity_from, mode_after, wish_of}
use Rattle.repeater_core.specs.Counts.{Count, choice, choices_from}
use Rattle.repeater_core.specs.Delayed.{oldest}
use Rattle.repeater_core.specs.SilentParts.{sends_to}
use Rattle.repeater_core.specs.Step.{RepeaterDevice, IsState, mode_next, chosen, after, emitted_by, decided_by, mask_from}
use Rattle.repeater_core.specs.Steady.{mode_on, mode_steady, port_steady, ports_steady, sent_from, AreAlikeRows, IsSteadyStep, IsSteady, at_each, count_by, sent_text, texted, line_later, HaveNoEvents, RunsWithin}
use Rattle.repeater_core.proofs.SendsToOthers.{IsRepeatable, repeatable, hears_as}
use Rattle.repeater_core.proofs.CalmIsExact.{length_emitted}
use Rattle.repeater_core.proofs.SteadyHalfBits.{guards_by_kind, not_one}
use Rattle.repeater_core.proofs.SteadyState.{state_after, ports_after, length_decided, at_k, have_no_events, counts_at, sent_at_k, texts_at}
use Rattle.repeater_core.proofs.SteadyCount.{sends_same, class_choice, decides_flags, wish_signal, calm_by, active_same}
use Rattle.repeater_core.proofs.DelayRows.{row_on, row_last}

-- the mode
mode_some : (m : Mode) (a : Activity) → mode_after m a ≡ mode_on m → 0 < mode_steady m a
mode_some m a e = grind (arith, nat_tests)

mode_rises : (n : ℕ) (m : Mode) (a : Activity) → 0 < mode_steady m a → n ≤ mode_steady (mode_on m) a → suc n ≤ most_calm → suc n ≤ mode_steady m a
mode_rises n m a l b few = grind (arith, nat_tests)

one_steady : (hears : List Sym) (emitting deciding : List Bool) (r : RepeaterDevice) → IsSteadyStep hears emitting deciding r
    → (k : ℕ) → k < 1 → IsSteadyStep hears (map is_signal (emitted_by r)) (map is_signal (decided_by hears r)) (iterate (after hears) k r)
one_steady hears emitting deciding r s zero b =
    subst (λ x. IsSteadyStep hears x (map is_signal (decided_by hears r)) r) (sym s.emits) (subst (λ x. IsSteadyStep hears emitting x r) (sym s.decides) s)
one_steady hears emitting deciding r s (suc k) b = absurd (omega arith)

pub active_stays : (hears : List Sym) (emitting deciding : List Bool) (r : RepeaterDevice) → IsState r → length hears ≡ length r.guards → IsSteadyStep hears emitting deciding r
    → activity_from 0 (after hears r).guards hears ≡ activity_from 0 r.guards hears
active_stays hears emitting deciding r h l s =
    ap (λ gs. activity_from 0 gs hears) (guards_by_kind r.guards hears (emitted_by r))
    ∙ active_same 0 0 hears (map is_signal (emitted_by r)) r.guards l (length-map (emitted_by r) is_signal ∙ length_emitted r h)
    (calm_by 1 hears (emitted_by r) r.guards l (length_emitted r h) (have_no_events 1 r hears h l (one_steady hears emitting deciding r s)))

mode_needs : (n : ℕ) (hears : List Sym) (emitting deciding : List Bool) (r : RepeaterDevice) → IsState r → length hears ≡ length r.guards
    → ((k : ℕ) → k < n → IsSteadyStep hears emitting deciding (iterate (after hears) k r)) → n ≤ most_calm → n ≤ mode_steady r.mode (activity_from 0 r.guards hears)
unfolding mode_next
mode_needs zero hears emitting deciding r h l s few = omega arith
mode_needs (suc n) hears emitting deciding r h l s few =
    let first = s 0 (omega arith) in
    let a = activity_from 0 r.guards hears in
    let here : mode_after r.mode a ≡ mode_on r.mode = first.mode in
    let next = mode_needs n hears emitting deciding (after hears r) (state_after r hears h l) (l ∙ sym (ports_after r hears h l)) (λ k b. s (suc k) (omega arith)) (omega arith) in
    let same = ap₂ mode_steady here (active_stays hears emitting deciding r h l first) in
    mode_rises n r.mode a (mode_some r.mode a here) (subst (λ x. n ≤ x) same next) few

-- the ports
halts : (w : Sym) (c : Count) → is_signal w ≡ true → c.run ≤ jabber_limit → (choice w c).halted ≡ false → 0 < port_steady true c
halts sy.Idle c e r h = absurd (cc)
halts sy.Hi c e r h = grind (arith, nat_tests)
halts sy.Lo c e r h = grind (arith, nat_tests)
halts sy.Clash c e r h = grind (arith, nat_tests)

port_rises : (n : ℕ) (c : Count) → c.run ≤ jabber_limit → 0 < port_steady true c → n ≤ port_steady true (count_by (eqb c.rest 0) c)
    → (n ≡ 0) ⊎ (eqb (count_by (eqb c.rest 0) c).rest 0 ≡ eqb c.rest 0) → suc n ≤ port_steady true c
port_rises n c r l m o = grind (arith, nat_tests)

run_stays : (c : Count) → c.run ≤ jabber_limit → 0 < port_steady true c → (count_by (eqb c.rest 0) c).run ≤ jabber_limit
run_stays c r l = grind (arith, nat_tests)

port_sent : (n : ℕ) (b : Bool) (c : Count) (w : ℕ → Sym) → c.run ≤ jabber_limit → ((k : ℕ) → k < n → is_signal (w k) ≡ true)
    → ((k : ℕ) → k < n → is_signal (choice (w k) (iterate (count_by b) k c)).symbol ≡ b) → ((k : ℕ) → k < n → (choice (w k) (iterate (count_by b) k c)).halted ≡ false) → n ≤ port_steady true c
port_sent zero b c w r a d h = omega arith
port_sent (suc n) b c w r a d h =
    let some : 0 < port_steady true c = halts (w 0) c (a 0 (omega arith)) r (h 0 (omega arith)) in
    let is : b ≡ eqb c.rest 0 = sym (d 0 (omega arith)) ∙ (class_choice true (w 0) c (a 0 (omega arith)) some).0 in
    let on = count_by b c in
    let same : on ≡ count_by (eqb c.rest 0) c = ap (λ x. count_by x c) is in
    let run : on.run ≤ jabber_limit = subst (λ (x : Count). x.run ≤ jabber_limit) (sym same) (run_stays c r some) in
    let next = port_sent n b on (λ k. w (suc k)) run (λ k l. a (suc k) (omega arith)) (λ k l. d (suc k) (omega arith)) (λ k l. h (suc k) (omega arith)) in
    port_rises n c r some (subst (λ x. n ≤ port_steady true x) same next) (still n same is next (λ l. a 1 (omega arith)) (λ l. d 1 (omega arith)))
  where
    still : (n : ℕ) → count_by b c ≡ count_by (eqb c.rest 0) c → b ≡ eqb c.rest 0 → n ≤ port_steady true (count_by b c) → (0 < n → is_signal (w 1) ≡ true) → (0 < n → is_signal (choice (w 1) (count_by b c)).symbol ≡ b)
        → (n ≡ 0) ⊎ (eqb (count_by (eqb c.rest 0) c).rest 0 ≡ eqb c.rest 0)
    still zero same is next a d = inl refl
    still (suc n) same is next a d =
        inr (ap (λ (x : Count). eqb x.rest 0) (sym same) ∙ sym (class_choice true (w 1) (count_by b c) (a (omega arith)) (omega arith)).0 ∙ d (omega arith) ∙ is)

port_need : (n : ℕ) (s b : Bool) (c : Count) (w : ℕ → Sym) → c.run ≤ jabber_limit → n ≤ most_calm → ((k : ℕ) → k < n → is_signal (w k) ≡ s)
    → ((k : ℕ) → k < n → is_signal (choice (w k) (iterate (count_by b) k c)).symbol ≡ b) → ((k : ℕ) → k < n → (choice (w k) (iterate (count_by b) k c)).halted ≡ false) → n ≤ port_steady s c
port_need n false b c w r few a d h = few
port_need n true b c w r few a d h = port_sent n b c w r a d h

ports_need : (n q p : ℕ) (m : Mode) (ms : ℕ → Mode) (hears : List Sym) (bs : List Bool) (cs : List Count) → length bs ≡ length cs → n ≤ most_calm → RunsWithin cs
    → ((k q : ℕ) → k < n → is_signal (wish_of (ms k) hears q) ≡ sends_to m q)
    → ((k : ℕ) → k < n → map is_signal (map (λ c. c.symbol) (choices_from (ms k) hears q (at_each (λ b c. iterate (count_by b) k c) bs cs))) ≡ bs)
    → ((k : ℕ) → k < n → mask_from p (map (λ c. c.halted) (choices_from (ms k) hears q (at_each (λ b c. iterate (count_by b) k c) bs cs))) ≡ 0) → n ≤ ports_steady m q cs
ports_need n q p m ms hears bs [] l few r w d h = few
ports_need n q p m ms hears [] (c ∷ cs) l few r w d h = absurd (omega arith)
ports_need n q p m ms hears (b ∷ bs) (c ∷ cs) l few r w d h =
    let here = port_need n (sends_to m q) b c (λ k. wish_of (ms k) hears q) (r 0 (omega arith)) few (λ k x. w k q x) (λ k x. ap (λ xs. get_or xs 0 false) (d k x)) (λ k x. (not_one _ p _ (h k x)).0) in
    let rest = ports_need n (q + 1) (p + 1) m ms hears bs cs (omega arith) few (λ i x. r (suc i) (omega arith)) w (λ k x. ap (drop 1) (d k x)) (λ k x. (not_one _ p _ (h k x)).1) in omega arith

sends_later : (k : ℕ) (m : Mode) (q : ℕ) → sends_to (iterate mode_on k m) q ≡ sends_to m q
sends_later zero m q = refl
sends_later (suc k) m q = sends_later k (mode_on m) q ∙ sends_same m q

mode_at : (n k : ℕ) (r : RepeaterDevice) (hears : List Sym) → IsSteady hears r n → k < n → mode_next hears (iterate (after hears) k r) ≡ mode_on (iterate mode_on k r.mode)
mode_at n k r hears s b = (s k b).mode ∙ ap (λ (y : RepeaterDevice). mode_on y.mode) (at_k n k r hears s b)

pub repeats : (hears : List Sym) (x : RepeaterDevice) → IsRepeatable hears (mode_next hears x)
unfolding mode_next
repeats hears x = repeatable hears x.mode (activity_from 0 x.guards hears) (hears_as 0 x.guards hears)

wish_at : (n k q : ℕ) (r : RepeaterDevice) (hears : List Sym) → IsSteady hears r n → k < n → is_signal (wish_of (mode_next hears (iterate (after hears) k r)) hears q) ≡ sends_to r.mode q
wish_at n k q r hears s b =
    let x = iterate (after hears) k r in
    wish_signal (mode_next hears x) hears q (repeats hears x)
    ∙ ap (λ m. sends_to m q) (mode_at n k r hears s b) ∙ sends_same (iterate mode_on k r.mode) q ∙ sends_later k r.mode q

halted_at : (n k : ℕ) (r : RepeaterDevice) (hears : List Sym) → IsState r → IsSteady hears r n → k < n
    → mask_from 0 (map (λ c. c.halted) (choices_from (mode_next hears (iterate (after hears) k r)) hears 0 (at_each (λ x c. iterate (count_by x) k c) (map is_signal (decided_by hears r)) r.counts))) ≡ 0
unfolding chosen
halted_at n k r hears h s b =
    ap (λ cs. mask_from 0 (map (λ c. c.halted) (choices_from (mode_next hears (iterate (after hears) k r)) hears 0 cs))) (sym (counts_at n k r hears h s b)) ∙ (s k b).none_halted

ports_are : (n : ℕ) (r : RepeaterDevice) (hears : List Sym) → IsState r → RunsWithin r.counts → IsSteady hears r n → n ≤ most_calm → n ≤ ports_steady r.mode 0 r.counts
ports_are n r hears h runs s few =
    ports_need n 0 0 r.mode (λ k. mode_next hears (iterate (after hears) k r)) hears (map is_signal (decided_by hears r)) r.counts
    (length-map (decided_by hears r) is_signal ∙ length_decided r hears h ∙ sym h.counts_len) few runs
    (λ k q b. wish_at n k q r hears s b) (λ k b. sent_at_k n k r hears h s b) (λ k b. halted_at n k r hears h s b)

-- the delay line
pub emitted_later : (k : ℕ) (hears : List Sym) (r : RepeaterDevice) → IsState r → length hears ≡ length r.guards → k < r.line.delay
    → emitted_by (iterate (after hears) k r) ≡ take r.line.ports (drop (k * r.line.ports) r.line.rows)
emitted_later zero hears r h l b = let none : 0 * r.line.ports ≡ 0 = omega arith in ap (λ i. take r.line.ports (drop i r.line.rows)) (sym none)
emitted_later (suc k) hears r h l b =
    emitted_later k hears (after hears r) (state_after r hears h l) (l ∙ sym (ports_after r hears h l)) (omega arith)
    ∙ row_on (suc k) k r.line.ports r.line.delay r.line.rows (decided_by hears r) (h.rows_len ∙ ap (λ p. r.line.delay * p) (sym h.line_ports)) (omega arith) (omega arith)

rows_are : (n : ℕ) (hears : List Sym) (r : RepeaterDevice) → IsState r → length hears ≡ length r.guards → IsSteady hears r n → n ≤ r.line.delay → AreAlikeRows n r.line
rows_are n hears r h l s few = λ k b. ap (map is_signal) (sym (emitted_later k hears r h l (omega arith))) ∙ (s k b).emits

-- past the delay what was decided in the first of them is emitted
emitted_past : (d : ℕ) (hears : List Sym) (r : RepeaterDevice) → IsState r → length hears ≡ length r.guards → r.line.delay ≡ suc d → emitted_by (iterate (after hears) (suc d) r) ≡ decided_by hears r
emitted_past d hears r h l more =
    let p = r.line.ports in
    let last : d ≡ r.line.delay - 1 = omega arith in
    emitted_later d hears (after hears r) (state_after r hears h l) (l ∙ sym (ports_after r hears h l)) (omega arith)
    ∙ ap (λ i. take p (drop (i * p) (drop p r.line.rows ++ decided_by hears r))) last
    ∙ row_last p r.line.delay r.line.rows (decided_by hears r) (omega arith) (h.rows_len ∙ ap (λ p. r.line.delay * p) (sym h.line_ports)) (length_decided r hears h ∙ sym h.line_ports)

sent_first : (n : ℕ) (hears : List Sym) (r : RepeaterDevice) → IsSteady hears r n → 0 < n → 0 < ports_steady r.mode 0 r.counts → map is_signal (decided_by hears r) ≡ sent_from r.mode 0 r.counts
unfolding chosen
sent_first n hears r s b some = decides_flags r.mode (mode_next hears r) hears 0 r.counts (λ q. wish_at n 0 q r hears s b) some

sent_past : (n : ℕ) (hears : List Sym) (r : RepeaterDevice) → IsState r → length hears ≡ length r.guards → 0 < ports_steady r.mode 0 r.counts → IsSteady hears r n → r.line.delay < n
    → sent_from r.mode 0 r.counts ≡ map is_signal (emitted_by r)
sent_past n hears r h l some s b =
    let d = r.line.delay - 1 in
    let more : r.line.delay ≡ suc d = (let a = h.some_delay in omega arith) in
    sym (sent_first n hears r s (omega arith) some) ∙ ap (map is_signal) (sym (emitted_past d hears r h l more)) ∙ (s (suc d) (omega arith)).emits

-- one half bit more isn't steady
pub no_more : (n modes ports guards rows : ℕ) (hears es : List Sym) (r : RepeaterDevice) → IsState r → length hears ≡ length r.guards → es ≡ emitted_by r → RunsWithin r.counts
    → n ≡ min (min (min modes ports) guards) rows → modes ≡ mode_steady r.mode (activity_from 0 r.guards hears) → ports ≡ ports_steady r.mode 0 r.counts
    → (guards < most_calm → ¬ HaveNoEvents (guards + 1) hears es r.guards) → (rows < r.line.delay → ¬ AreAlikeRows (rows + 1) r.line)
    → (r.line.delay ≤ rows → rows < most_calm → ¬ (sent_from r.mode 0 r.counts ≡ map is_signal es)) → n < most_calm → ¬ IsSteady hears r (n + 1)
no_more n modes ports guards rows hears es r h l e runs is m p g w o few s =
    let a = mode_needs (n + 1) hears (map is_signal (emitted_by r)) (map is_signal (decided_by hears r)) r h l s (omega arith) in
    let b = ports_are (n + 1) r hears h runs s (omega arith) in
    let calm = subst (λ xs. HaveNoEvents (n + 1) hears xs r.guards) (sym e) (have_no_events (n + 1) r hears h l s) in
    elim (cases_eq guards n) [
      | inl same ↦ g (omega arith) (subst (λ x. HaveNoEvents (x + 1) hears es r.guards) (sym same) calm)
      | inr other ↦ elim (cases_eq rows n) [
        | inl same ↦ elim (cases_lt rows r.line.delay) [
          | inl below ↦ w below (subst (λ x. AreAlikeRows (x + 1) r.line) (sym same) (rows_are (n + 1) hears r h l s (omega arith)))
          | inr past ↦ o past (omega arith) (sent_past (n + 1) hears r h l (omega arith) s (omega arith) ∙ ap (map is_signal) (sym e))
        ]
        | inr differ ↦ absurd (omega arith)
      ]
    ]

-- what is emitted and decided in the last of them
pub last_emitted : (n : ℕ) (r : RepeaterDevice) (hears : List Sym) → IsSteady hears r n → 0 < n → emitted_by (iterate (after hears) (n - 1) r) ≡ oldest (line_later hears (map is_signal (decided_by hears r)) (n - 1) r.mode r.line)
last_emitted n r hears s l = ap emitted_by (at_k n (n - 1) r hears s (omega arith))

on_more : (k : ℕ) (m : Mode) → mode_on (iterate mode_on k m) ≡ iterate mode_on (suc k) m
on_more zero m = refl
on_more (suc k) m = on_more k (mode_on m)

pub last_decided : (n : ℕ) (r : RepeaterDevice) (hears : List Sym) → IsSteady hears r n → 0 < n
    → decided_by hears (iterate (after hears) (n - 1) r) ≡ texted (map is_signal (decided_by hears r)) (sent_text (iterate mode_on n r.mode) hears)
last_decided n r hears s l =
    let x = iterate (after hears) (n - 1) r in
    let more : suc (n - 1) ≡ n = omega arith in
    texts_at (n - 1) x hears
    ∙ ap₂ (λ bs m. texted bs (sent_text m hears)) (s (n - 1) (omega arith)).decides
    (mode_at n (n - 1) r hears s (omega arith) ∙ on_more (n - 1) r.mode ∙ ap (λ k. iterate mode_on k r.mode) more)
