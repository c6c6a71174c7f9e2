-- The calm is exact: nothing happens in so many silent half bits, and something does in the next. What they leave.
use Rattle.std.proofs.Common.{◌≡◌, ℕ, zero, suc, ◌*◌, ◌<◌, ◌≤◌, min, Bool, true, false, not, cond, ◌&&◌, List, [], ◌∷◌, length, map, replicate, inl, inr, refl, sym, ap, ap₂, subst, ◌∙◌, arith, length-take-le}
use Rattle.std.proofs.lemmas.Bool.{cases_eq, cases_Bool, cases_lt, cond_both}
use Rattle.std.proofs.lemmas.Bool.Decides.{nat_tests}
use Rattle.std.proofs.lemmas.List.{length-replicate, length-map}
use Rattle.std.proofs.lemmas.List.Elements.{All-replicate}
use Rattle.std.specs.List.{All}
use Rattle.std.specs.Fn.{iterate}
use Rattle.repeater_core.specs.Limits.{most_calm}
use Rattle.manchester_line.specs.declared.Sym.TheVariants as sy
use Rattle.port_partition.specs.Guard.{Guard}
use Rattle.repeater_core.specs.declared.modes.Mode.{Mode}
use Rattle.repeater_core.specs.Modes.{mode_after, is_tx_clash}
use Rattle.repeater_core.specs.Counts.{Count, Choice, choices_from}
use Rattle.repeater_core.specs.Delayed.{Delayed, moved_on}
use Rattle.repeater_core.specs.SilentParts.{ports_calm, line_calm, any_opens, silent_guard, silent_count, silent_mode, silent_line}
use Rattle.repeater_core.specs.Step.{RepeaterDevice, IsState, mode_next, chosen, after, emitted_by, decided_by, clash_begins, guards_after, guard_events, is_closing, is_opening, mask_from}
use Rattle.repeater_core.specs.Calm.{silent_symbols, silent_step, IsUneventful, IsCalm}
use Rattle.repeater_core.proofs.Lawful.{step_state, length_guards}
use Rattle.repeater_core.proofs.SilentModes.{fallen, fallen_min}
use Rattle.repeater_core.proofs.DelayLineCalm.{IsLine, row_within, front_take, first_row_idle, first_row_signals, line_falls, calm_at_most}
use Rattle.repeater_core.proofs.SilentPorts.{nobody, idle_is, idles, guards_silent, guards_twice, none_opened, some_opened, none_closed, none_opens, AreSilentChoices, silent_ports, eventful_ports, ports_at_most, ports_fall}

-- the calm of a repeater, from its parts
abbrev pub calm_of : RepeaterDevice → ℕ
calm_of r = cond (any_opens r.guards) 0 (min (ports_calm r.mode 0 r.counts) (line_calm r.line))

-- the state after a silent half bit in which nothing happens, part by part
abbrev pub silent_parts : RepeaterDevice → RepeaterDevice
silent_parts r = record { mode = silent_mode r.mode; guards = map silent_guard r.guards; counts = map silent_count r.counts; line = silent_line r.line }

pub state_line : (r : RepeaterDevice) → IsState r → IsLine r.line
state_line r h =
    let n : r.line.ports ≡ length r.guards = h.line_ports in
    let two = h.two_ports in
    record {
      some_port = omega arith;
      rows_len = h.rows_len ∙ ap (λ k. r.line.delay * k) (sym n);
      some_delay = h.some_delay;
      delay_at_most = h.delay_at_most;
    }

pub mode_silent : (r : RepeaterDevice) → mode_next (silent_symbols r) r ≡ silent_mode r.mode
unfolding mode_next
mode_silent r = ap (mode_after r.mode) (nobody 0 r.guards (length r.guards))

pub chosen_silent : (r : RepeaterDevice) → chosen (silent_symbols r) r ≡ choices_from (silent_mode r.mode) (silent_symbols r) 0 r.counts
unfolding chosen
chosen_silent r = ap (λ m. choices_from m (silent_symbols r) 0 r.counts) (mode_silent r)

no_clash_begins : (mode : Mode) → is_tx_clash (silent_mode mode) && not (is_tx_clash mode) ≡ false
no_clash_begins mode = grind (arith, nat_tests)

pub clash_silent : (r : RepeaterDevice) → clash_begins (silent_symbols r) r ≡ false
clash_silent r = ap (λ m. is_tx_clash m && not (is_tx_clash r.mode)) (mode_silent r) ∙ no_clash_begins r.mode

-- a repeater whose calm is not 0, so that nothing happens in a silent half bit to come
pub record HasCalm (r : RepeaterDevice) : Type 0 where
  pub shut : any_opens r.guards ≡ false
  pub ports : 0 < ports_calm r.mode 0 r.counts
  pub line : 0 < line_calm r.line

pub has_calm : (r : RepeaterDevice) → 0 < calm_of r → HasCalm r
has_calm r l = elim (cases_Bool (any_opens r.guards)) [
  | inl open' ↦ (let z : calm_of r ≡ 0 = ap (λ b. cond b 0 (min (ports_calm r.mode 0 r.counts) (line_calm r.line))) open' in absurd (omega arith))
  | inr shut ↦
      let e : calm_of r ≡ min (ports_calm r.mode 0 r.counts) (line_calm r.line) = ap (λ b. cond b 0 (min (ports_calm r.mode 0 r.counts) (line_calm r.line))) shut in
      record { shut = shut; ports = omega arith; line = omega arith }
]

pub emits_silent : (r : RepeaterDevice) → IsState r → HasCalm r → emitted_by r ≡ idles r.guards
emits_silent r h s = front_take r.line.ports r.line.rows (first_row_idle r.line (state_line r h) s.line) ∙ ap (λ k. replicate k sy.Idle) h.line_ports

ports_silent : (r : RepeaterDevice) → HasCalm r → AreSilentChoices r.counts (chosen (silent_symbols r) r)
ports_silent r s = subst (AreSilentChoices r.counts) (sym (chosen_silent r)) (silent_ports r.mode (silent_symbols r) 0 r.counts s.ports)

pub is_uneventful : (r : RepeaterDevice) → IsState r → HasCalm r → IsUneventful r
is_uneventful r h s =
    let e = emits_silent r h s in
    let p = ports_silent r s in
    record {
      emits = subst (All (λ s. s ≡ sy.Idle)) (sym e) (All-replicate (λ s. s ≡ sy.Idle) (length r.guards) sy.Idle refl);
      decides = p.symbols;
      no_clash = clash_silent r;
      none_closes = ap (λ es. mask_from 0 (map is_closing (guard_events r.guards (silent_symbols r) es))) e ∙ none_closed 0 r.guards;
      none_opens = ap (λ es. mask_from 0 (map is_opening (guard_events r.guards (silent_symbols r) es))) e ∙ none_opened 0 r.guards s.shut;
      none_halted = p.halted 0;
    }

pub length_emitted : (r : RepeaterDevice) → IsState r → length (emitted_by r) ≡ length r.guards
length_emitted r h = length-take-le r.line.ports r.line.rows (row_within r.line (state_line r h)) ∙ h.line_ports

is_eventful : (r : RepeaterDevice) → IsState r → calm_of r ≡ 0 → IsUneventful r → ⊥
is_eventful r h z q = elim (cases_Bool (any_opens r.guards)) [
  | inl open' ↦
      let e : emitted_by r ≡ idles r.guards = idle_is (emitted_by r) q.emits ∙ ap (λ k. replicate k sy.Idle) (length_emitted r h) in
      some_opened 0 r.guards open' (ap (λ es. mask_from 0 (map is_opening (guard_events r.guards (silent_symbols r) es))) (sym e) ∙ q.none_opens)
  | inr shut ↦
      let e : calm_of r ≡ min (ports_calm r.mode 0 r.counts) (line_calm r.line) = ap (λ b. cond b 0 (min (ports_calm r.mode 0 r.counts) (line_calm r.line))) shut in
      elim (cases_eq (ports_calm r.mode 0 r.counts) 0) [
        | inl none ↦
            eventful_ports r.mode (silent_symbols r) 0 0 r.counts none
            (subst (λ xs. All (λ s. s ≡ sy.Idle) (map (λ (c : Choice). c.symbol) xs)) (chosen_silent r) q.decides)
            (subst (λ xs. mask_from 0 (map (λ (c : Choice). c.halted) xs) ≡ 0) (chosen_silent r) q.none_halted)
        | inr some ↦ first_row_signals r.line (state_line r h) (omega arith) q.emits
      ]
]

pub same_state : (a b : RepeaterDevice) → a.mode ≡ b.mode → a.guards ≡ b.guards → a.counts ≡ b.counts → a.line ≡ b.line → a ≡ b
same_state a b m g c l = subst (λ x. record { mode = x; guards = a.guards; counts = a.counts; line = a.line } ≡ b) (sym m) (subst (λ x. record { mode = b.mode; guards = x; counts = a.counts; line = a.line } ≡ b) (sym g) (subst (λ x. record { mode = b.mode; guards = b.guards; counts = x; line = a.line } ≡ b) (sym c) (subst (λ x. record { mode = b.mode; guards = b.guards; counts = b.counts; line = x } ≡ b) (sym l) refl)))

pub decided_silent : (r : RepeaterDevice) → IsState r → HasCalm r → decided_by (silent_symbols r) r ≡ replicate r.line.ports sy.Idle
decided_silent r h s =
    let p = ports_silent r s in
    let xs = chosen (silent_symbols r) r in
    let len : length (map (λ (c : Choice). c.symbol) xs) ≡ length r.guards =
    length-map xs (λ c. c.symbol) ∙ sym (length-map xs (λ c. c.count)) ∙ ap length p.counts ∙ length-map r.counts silent_count ∙ h.counts_len in
    idle_is (map (λ c. c.symbol) xs) p.symbols ∙ ap (λ k. replicate k sy.Idle) (len ∙ sym h.line_ports)

pub step_is : (r : RepeaterDevice) → IsState r → HasCalm r → silent_step r ≡ silent_parts r
unfolding silent_step
step_is r h s =
    same_state (after (silent_symbols r) r) (silent_parts r) (mode_silent r)
    (ap (guards_after r.guards (silent_symbols r)) (emits_silent r h s) ∙ guards_silent r.guards)
    (ports_silent r s).counts
    (ap (λ xs. moved_on xs r.line) (decided_silent r h s))

pub state_on : (r : RepeaterDevice) → IsState r → IsState (silent_step r)
unfolding silent_step mode_next chosen
state_on r h =
    step_state (mode_next (silent_symbols r) r) (guards_after r.guards (silent_symbols r) (emitted_by r)) (map (λ c. c.count) (chosen (silent_symbols r) r)) (moved_on (decided_by (silent_symbols r) r) r.line) (silent_symbols r) r
    refl (length_guards r.guards (silent_symbols r) (emitted_by r) (length-replicate (length r.guards) sy.Idle) (length_emitted r h)) refl refl h

calm_falls : (r : RepeaterDevice) → IsState r → HasCalm r → calm_of (silent_parts r) ≡ fallen (calm_of r)
calm_falls r h s =
    let a = ports_calm r.mode 0 r.counts in
    let b = line_calm r.line in
    let shut : calm_of r ≡ min a b = ap (λ o. cond o 0 (min a b)) s.shut in
    ap (λ o. cond o 0 (min (ports_calm (silent_mode r.mode) 0 (map silent_count r.counts)) (line_calm (silent_line r.line)))) (none_opens r.guards)
    ∙ ap₂ min (ports_fall r.mode 0 r.counts s.ports) (line_falls r.line (state_line r h) s.line)
    ∙ sym (fallen_min a b (ports_at_most r.mode 0 r.counts) (calm_at_most r.line (state_line r h))) ∙ ap fallen (sym shut)

falls : (r : RepeaterDevice) → IsState r → HasCalm r → calm_of (silent_step r) ≡ fallen (calm_of r)
falls r h s = ap calm_of (step_is r h s) ∙ calm_falls r h s

fallen_more : (n a : ℕ) → suc n ≤ a → n ≤ fallen a
fallen_more n a l = grind (arith, nat_tests)

fallen_is : (n a : ℕ) → a ≡ suc n → a < most_calm → n ≡ fallen a
fallen_is n a e l = grind (arith, nat_tests)

-- nothing happens in each silent half bit below the calm
pub uneventful_at : (k : ℕ) (r : RepeaterDevice) → IsState r → k < calm_of r → IsUneventful (iterate silent_step k r)
uneventful_at zero r h l = is_uneventful r h (has_calm r l)
uneventful_at (suc k) r h l =
    let s = has_calm r (omega arith) in
    let more : suc k ≤ fallen (calm_of r) = fallen_more (suc k) (calm_of r) (omega arith) in
    let f = falls r h s in
    uneventful_at k (silent_step r) (state_on r h) (omega arith)

-- and in the next something does
pub eventful_at : (n : ℕ) (r : RepeaterDevice) → IsState r → calm_of r ≡ n → n < most_calm → ¬ IsUneventful (iterate silent_step n r)
eventful_at zero r h e l = λ q. is_eventful r h e q
eventful_at (suc n) r h e l =
    let s = has_calm r (omega arith) in
    let less : n ≡ fallen (calm_of r) = fallen_is n (calm_of r) e (omega arith) in
    eventful_at n (silent_step r) (state_on r h) (falls r h s ∙ sym less) (omega arith)

pub calm_at_most_of : (r : RepeaterDevice) → IsState r → calm_of r ≤ most_calm
calm_at_most_of r h = cond_both (any_opens r.guards) 0 (min (ports_calm r.mode 0 r.counts) (line_calm r.line)) (λ n. n ≤ most_calm) (λ _. omega arith) (λ _. let m = ports_at_most r.mode 0 r.counts in omega arith)

pub calm_opens : (r : RepeaterDevice) → any_opens r.guards ≡ true → calm_of r ≡ 0
calm_opens r e = ap (λ b. cond b 0 (min (ports_calm r.mode 0 r.counts) (line_calm r.line))) e

pub calm_shut : (r : RepeaterDevice) (a b : ℕ) → any_opens r.guards ≡ false → a ≡ ports_calm r.mode 0 r.counts → b ≡ line_calm r.line → calm_of r ≡ min a b
calm_shut r a b e f g = ap (λ b. cond b 0 (min (ports_calm r.mode 0 r.counts) (line_calm r.line))) e ∙ sym (ap₂ min f g)

pub calm_is : (n : ℕ) (r : RepeaterDevice) → IsState r → calm_of r ≡ n → IsCalm r n
calm_is n r h e = let most = calm_at_most_of r h in record { at_most = omega arith; uneventful = λ k l. uneventful_at k r h (let w : k < calm_of r = omega arith in w) }

calm_told : (n : ℕ) (r s : RepeaterDevice) → r ≡ s → IsState r → calm_of r ≡ n → IsCalm s n × (n < most_calm → ¬ IsUneventful (iterate silent_step n s))
calm_told n r s same h e =
    (subst (λ r. IsCalm r n) same (calm_is n r h e), subst (λ r. n < most_calm → ¬ IsUneventful (iterate silent_step n r)) same (eventful_at n r h e))

-- as many half bits as the calm, or fewer
pub calm_within : (n : ℕ) (r : RepeaterDevice) → IsState r → IsCalm r n → n ≤ calm_of r
calm_within n r h c = elim (cases_lt (calm_of r) n) [
  | inl l ↦ (let most = c.at_most in absurd (eventful_at (calm_of r) r h refl (omega arith) (c.uneventful (calm_of r) l)))
  | inr l ↦ l
]

pub calm_less : (n m : ℕ) (r : RepeaterDevice) → IsCalm r m → n ≤ m → IsCalm r n
calm_less n m r c l = let most = c.at_most in record { at_most = omega arith; uneventful = λ k b. c.uneventful k (let w : k < m = omega arith in w) }

pub leaps : (n : ℕ) (r : RepeaterDevice) → IsState r → n ≤ calm_of r
    → iterate silent_step n r ≡ record { mode = iterate silent_mode n r.mode; guards = iterate (map silent_guard) n r.guards; counts = iterate (map silent_count) n r.counts; line = iterate silent_line n r.line }
leaps zero r h l = refl
leaps (suc n) r h l =
    let s = has_calm r (omega arith) in
    let is = step_is r h s in
    let more : n ≤ fallen (calm_of r) = fallen_more n (calm_of r) l in
    let f = calm_falls r h s in
    ap (iterate silent_step n) is ∙ leaps n (silent_parts r) (subst IsState is (state_on r h)) (omega arith)

pub guards_leap : (n : ℕ) (gs : List Guard) → 0 < n → iterate (map silent_guard) n gs ≡ map silent_guard gs
guards_leap zero gs l = absurd (omega arith)
guards_leap (suc zero) gs l = refl
guards_leap (suc (suc n)) gs l = guards_leap (suc n) (map silent_guard gs) (omega arith) ∙ guards_twice gs

pub counts_leap : (n : ℕ) (cs : List Count) → iterate (map silent_count) n cs ≡ map (λ c. iterate silent_count n c) cs
counts_leap zero cs = same cs
  where
    same : (cs : List Count) → cs ≡ map (λ c. c) cs
    same [] = refl
    same (c ∷ cs) = ap (λ xs. c ∷ xs) (same cs)
counts_leap (suc n) cs = counts_leap n (map silent_count cs) ∙ twice cs
  where
    twice : (cs : List Count) → map (λ c. iterate silent_count n c) (map silent_count cs) ≡ map (λ c. iterate silent_count (suc n) c) cs
    twice [] = refl
    twice (c ∷ cs) = ap (λ xs. iterate silent_count n (silent_count c) ∷ xs) (twice cs)

pub state_at : (n : ℕ) (r : RepeaterDevice) → IsState r → IsState (iterate silent_step n r)
state_at zero r h = h
state_at (suc n) r h = state_at n (silent_step r) (state_on r h)

pub line_within : (r : RepeaterDevice) → calm_of r ≤ line_calm r.line
line_within r = cond_both (any_opens r.guards) 0 (min (ports_calm r.mode 0 r.counts) (line_calm r.line)) (λ n. n ≤ line_calm r.line) (λ _. omega arith) (λ _. omega arith)

-- the state after as many silent half bits as the calm, or fewer, from its parts
pub leapt : (n : ℕ) (r : RepeaterDevice) (mode : Mode) (guards : List Guard) (counts : List Count) (line : Delayed) → IsState r → IsCalm r n → 0 < n
    → mode ≡ iterate silent_mode n r.mode → guards ≡ map silent_guard r.guards → counts ≡ map (λ c. iterate silent_count n c) r.counts → line ≡ iterate silent_line n r.line
    → ◌≡◌ {A = RepeaterDevice} (record { mode = mode; guards = guards; counts = counts; line = line }) (iterate silent_step n r)
leapt n r mode guards counts line h c l m g k e =
    let parts : RepeaterDevice = record { mode = iterate silent_mode n r.mode; guards = iterate (map silent_guard) n r.guards; counts = iterate (map silent_count) n r.counts; line = iterate silent_line n r.line } in
    same_state (record { mode = mode; guards = guards; counts = counts; line = line }) parts m (g ∙ sym (guards_leap n r.guards l)) (k ∙ sym (counts_leap n r.counts)) e
    ∙ sym (leaps n r h (calm_within n r h c))

-- what a repeater's calls give of it, told of the same repeater s as the contract names it: its calm where a port opens
-- ..
pub calm_where_open : (r s : RepeaterDevice) (gs : List Guard) (b : Bool) → r ≡ s → IsState r → b ≡ any_opens gs → gs ≡ r.guards → b ≡ true
    → IsCalm s 0 × (0 < most_calm → ¬ IsUneventful (iterate silent_step 0 s))
calm_where_open r s gs b same h opens guards e = calm_told 0 r s same h (calm_opens r (ap any_opens (sym guards) ∙ sym opens ∙ e))

-- .. and where none does ..
pub calm_where_shut : (r s : RepeaterDevice) (gs : List Guard) (cs : List Count) (b : Bool) (ports line n : ℕ) → r ≡ s → IsState r → b ≡ any_opens gs → gs ≡ r.guards → b ≡ false
    → ports ≡ ports_calm r.mode 0 cs → cs ≡ r.counts → line ≡ line_calm r.line → n ≡ min ports line
    → IsCalm s n × (n < most_calm → ¬ IsUneventful (iterate silent_step n s))
calm_where_shut r s gs cs b ports line n same h opens guards e calm counts lines least =
    calm_told n r s same h
    (calm_shut r ports line (ap any_opens (sym guards) ∙ sym opens ∙ e) (calm ∙ ap (ports_calm r.mode 0) counts) lines ∙ sym least)

-- .. and the repeater after a leap
pub leap_told : (n : ℕ) (r s : RepeaterDevice) (mode : Mode) (gs gs' : List Guard) (cs cs' : List Count) (line : Delayed) → r ≡ s → IsState r → IsCalm s n → 0 < n
    → mode ≡ iterate silent_mode n r.mode → gs ≡ r.guards → cs ≡ r.counts → gs' ≡ map silent_guard gs → cs' ≡ map (λ c. iterate silent_count n c) cs → line ≡ iterate silent_line n r.line
    → IsState (record { mode = mode; guards = gs'; counts = cs'; line = line }) × (◌≡◌ {A = RepeaterDevice} (record { mode = mode; guards = gs'; counts = cs'; line = line }) (iterate silent_step n s))
leap_told n r s mode gs gs' cs cs' line same h calm some m g k later_guards later_counts e =
    let is =
    leapt n r mode gs' cs' line h (subst (λ r. IsCalm r n) (sym same) calm) some m
    (later_guards ∙ ap (map silent_guard) g) (later_counts ∙ ap (map (λ c. iterate silent_count n c)) k) e in
    (subst IsState (sym is) (state_at n r h), is ∙ ap (iterate silent_step n) same)
