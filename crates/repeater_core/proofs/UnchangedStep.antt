-- A step's laws from what it decides, and the step of a repeater that a silent half bit leaves as it is.
use Rattle.std.proofs.Common.{◌≡◌, ℕ, ◌+◌, true, false, ◌&&◌, ◌||◌, List, [], ◌∷◌, ◌++◌, length, map, drop, replicate, refl, sym, ap, ap₂, subst, ◌∙◌, arith, length-append, length-drop}
use Rattle.std.proofs.lemmas.Bool.Decides.{nat_tests}
use Rattle.std.proofs.lemmas.List.{length-replicate}
use Rattle.std.proofs.lemmas.List.Elements.{All-head, All-tail, All-append, All-drop, All-replicate}
use Rattle.std.specs.List.{All}
use Rattle.repeater_core.specs.Limits.{most_calm}
use Rattle.manchester_line.specs.declared.Sym.{Sym}
use Rattle.manchester_line.specs.declared.Sym.TheVariants as sy
use Rattle.port_partition.specs.Guard.{Guard}
use Rattle.repeater_core.specs.declared.modes.Mode.TheVariants.{Idle}
use Rattle.repeater_core.specs.Counts.{Count, resting_count}
use Rattle.repeater_core.specs.Delayed.{Delayed}
use Rattle.repeater_core.specs.Laws.{HasNoClash, Repeats, EndsLong}
use Rattle.repeater_core.specs.SilentParts.{ports_calm, any_opens, silent_guard, silent_count, silent_mode, silent_line, is_unchanged}
use Rattle.repeater_core.specs.Step.{RepeaterDevice, IsState, mode_next, chosen, after, emitted_by, decided_by, resting_by, clash_begins, closed_mask, opened_mask, halted_mask}
use Rattle.repeater_core.specs.Calm.{silent_symbols, silent_step, IsUnchanged}
use Rattle.repeater_core.proofs.Lawful.{repeats, ends_long, no_clash, no_clash_emitted}
use Rattle.repeater_core.proofs.DelayLineCalm.{IsLine, calm_all, front_of_all, row_within}
use Rattle.repeater_core.proofs.SilentPorts.{idles, idle_is}
use Rattle.repeater_core.proofs.CalmIsExact.{HasCalm, same_state, state_line, is_uneventful, step_is, silent_parts, emits_silent, decided_silent}

-- the laws
pub law_repeats : (r : RepeaterDevice) (ss ds : List Sym) → length ss ≡ length r.guards → ds ≡ decided_by ss r → Repeats (map (λ g. g.closed) r.guards) ss (resting_by ss r) ds
unfolding mode_next chosen
law_repeats r ss ds l d = subst (Repeats (map (λ g. g.closed) r.guards) ss (resting_by ss r)) (sym d) (repeats r.guards ss r.mode r.counts l)

pub law_ends_long : (r : RepeaterDevice) (ss ds : List Sym) → IsState r → ds ≡ decided_by ss r → EndsLong r.counts ds
unfolding mode_next chosen
law_ends_long r ss ds h d = subst (EndsLong r.counts) (sym d) (ends_long r.mode r.guards ss r.counts h.long h.rest_without_output)

pub law_no_clash : (r : RepeaterDevice) (ss ds : List Sym) → ds ≡ decided_by ss r → HasNoClash ds
unfolding mode_next chosen
law_no_clash r ss ds d = subst HasNoClash (sym d) (no_clash r.mode r.guards ss r.counts)

pub law_no_clash_emitted : (r : RepeaterDevice) (es : List Sym) → IsState r → es ≡ emitted_by r → HasNoClash es
law_no_clash_emitted r es h e = subst HasNoClash (sym e) (no_clash_emitted r.line.ports r.line.rows h.no_clash)

-- a guard that a silent half bit leaves as it is
unchanged_guard : (g : Guard) → is_unchanged g ≡ true → silent_guard g ≡ g
unchanged_guard g h = grind (arith, nat_tests)

unchanged_shut : (g : Guard) → is_unchanged g ≡ true → g.closed && g.mend ≡ false
unchanged_shut g h = grind (arith, nat_tests)

guards_stay : (gs : List Guard) → All (λ g. is_unchanged g ≡ true) gs → map silent_guard gs ≡ gs
guards_stay [] h = refl
guards_stay (g ∷ gs) h = ap₂ ◌∷◌ (unchanged_guard g (All-head (λ g. is_unchanged g ≡ true) g gs h)) (guards_stay gs (All-tail (λ g. is_unchanged g ≡ true) g gs h))

guards_shut : (gs : List Guard) → All (λ g. is_unchanged g ≡ true) gs → any_opens gs ≡ false
guards_shut [] h = refl
guards_shut (g ∷ gs) h = ap₂ ◌||◌ (unchanged_shut g (All-head (λ g. is_unchanged g ≡ true) g gs h)) (guards_shut gs (All-tail (λ g. is_unchanged g ≡ true) g gs h))

-- ports without output or rest
counts_stay : (cs : List Count) → All (λ c. c ≡ resting_count 0) cs → map silent_count cs ≡ cs
counts_stay [] h = refl
counts_stay (c ∷ cs) h =
    let here : c ≡ resting_count 0 = All-head (λ c. c ≡ resting_count 0) c cs h in
    ap₂ ◌∷◌ (ap silent_count here ∙ sym here) (counts_stay cs (All-tail (λ c. c ≡ resting_count 0) c cs h))

idle_ports : (q : ℕ) (cs : List Count) → ports_calm Idle q cs ≡ most_calm
idle_ports q [] = refl
idle_ports q (c ∷ cs) = let rest = idle_ports (q + 1) cs in omega arith

-- a line without signal
line_stays : (d : Delayed) → IsLine d → All (λ s. s ≡ sy.Idle) d.rows → silent_line d ≡ d
line_stays d h i =
    let p = λ (s : Sym). s ≡ sy.Idle in
    let new = drop d.ports d.rows ++ replicate d.ports sy.Idle in
    let idle : All p new = All-append p (drop d.ports d.rows) (replicate d.ports sy.Idle) (All-drop p d.ports d.rows i) (All-replicate p d.ports sy.Idle refl) in
    let len : length new ≡ length d.rows =
    length-append (drop d.ports d.rows) (replicate d.ports sy.Idle) ∙ (let a = length-drop d.ports d.rows in let b = length-replicate d.ports sy.Idle in let w = row_within d h in omega arith) in
    ap (λ xs. record d { rows = xs }) (idle_is new idle ∙ ap (λ n. replicate n sy.Idle) len ∙ sym (idle_is d.rows i))

unchanged_has_calm : (r : RepeaterDevice) → IsUnchanged r → HasCalm r
unchanged_has_calm r s =
    let ports = ap (λ m. ports_calm m 0 r.counts) s.mode ∙ idle_ports 0 r.counts in
    let line = calm_all r.line (front_of_all r.line.rows s.rows) in
    record { shut = guards_shut r.guards s.guards; ports = omega arith; line = omega arith }

unchanged_step : (r : RepeaterDevice) → IsState r → IsUnchanged r → silent_parts r ≡ r
unchanged_step r h s = same_state (silent_parts r) r (ap silent_mode s.mode ∙ sym s.mode) (guards_stay r.guards s.guards) (counts_stay r.counts s.counts) (line_stays r.line (state_line r h) s.rows)

-- the step of a repeater that a silent half bit leaves as it is
pub record IsUnchangedStep (ss : List Sym) (r : RepeaterDevice) (es ds : List Sym) : Type 0 where
  pub state : r ≡ after ss r
  pub emits : es ≡ emitted_by r
  pub decided : ds ≡ decided_by ss r
  pub clash : false ≡ clash_begins ss r
  pub closed : 0 ≡ closed_mask ss r
  pub opened : 0 ≡ opened_mask ss r
  pub halted : 0 ≡ halted_mask ss r

unchanged_in_silence : (r : RepeaterDevice) (es ds : List Sym) → IsState r → IsUnchanged r → es ≡ idles r.guards → ds ≡ idles r.guards → IsUnchangedStep (silent_symbols r) r es ds
unfolding silent_step
unchanged_in_silence r es ds h s e d =
    let calm = unchanged_has_calm r s in
    let uneventful = is_uneventful r h calm in
    record {
      state = sym (step_is r h calm ∙ unchanged_step r h s);
      emits = e ∙ sym (emits_silent r h calm);
      decided = d ∙ sym (decided_silent r h calm ∙ ap (λ n. replicate n sy.Idle) h.line_ports);
      clash = sym uneventful.no_clash;
      closed = sym uneventful.none_closes;
      opened = sym uneventful.none_opens;
      halted = sym uneventful.none_halted;
    }

pub unchanged_is : (ss : List Sym) (r : RepeaterDevice) (es ds : List Sym) → IsState r → IsUnchanged r → All (λ s. s ≡ sy.Idle) ss → length ss ≡ length r.guards → es ≡ idles r.guards → ds ≡ idles r.guards → IsUnchangedStep ss r es ds
unchanged_is ss r es ds h s i l e d = subst (λ xs. IsUnchangedStep xs r es ds) (sym (idle_is ss i ∙ ap (λ n. replicate n sy.Idle) l)) (unchanged_in_silence r es ds h s e d)
