-- The bursts in symbols are their maximal stretches of signals that Idle ends.
use Rattle.std.proofs.Common.{◌≡◌, ◌≢◌, ℕ, suc, ◌+◌, ◌<◌, Bool, true, false, cond, not, List, [], ◌∷◌, ◌++◌, length, drop, get_or, Contains, refl, sym, ap, subst, ◌∙◌, arith, None, Some, inl, inr}
use Rattle.std.specs.Prelude.{Option, nat_lt, ◌⊎◌, ◌==◌}
use Rattle.std.specs.List.{AllByRecursion}
use Rattle.std.proofs.lemmas.Bool.{eqb-true, lt-ltb}
use Rattle.std.proofs.lemmas.Option.{same_Some}
use Rattle.manchester_line.specs.Line.{is_signal}
use Rattle.manchester_line.specs.declared.Sym.{Sym}
use Rattle.manchester_line.specs.declared.Sym.TheVariants.{Idle}
use Rattle.line_probe.specs.Bursts.{AreBurstsIn, BeginInOrder, IsBeforeBurst, IsBurst, burst_in_front, burst_of, bursts_from, bursts_of, has_ended_signals, signals_in_front, with_burst}
use Rattle.line_probe.specs.declared.burst.Burst.{Burst}
use Rattle.line_probe.proofs.BurstsSoFar.{AreSignals, ended_burst, idle_is, no_ended_burst, no_idle}

-- nothing stands before, and a burst may begin here, or an Idle half bit stands last
abbrev Begins : Bool → List Sym → Type 0
Begins after_idle before = ((before ≡ []) × (after_idle ≡ true)) ⊎ ((front : List Sym) × (before ≡ front ++ Idle ∷ []))

-- a burst of symbols from half bit t on
record Found (t : ℕ) (after_idle : Bool) (symbols : List Sym) (burst : Burst) : Type 0 where
  before : List Sym
  signals : List Sym
  after : List Sym
  around : symbols ≡ before ++ (signals ++ Idle ∷ after)
  begins : Begins after_idle before
  some : signals ≢ []
  all : AreSignals signals
  judged : burst ≡ burst_of (t + length before) signals

-- symbols are signals that Idle ends, or signals alone
record Ended (symbols : List Sym) : Type 0 where
  signals : List Sym
  after : List Sym
  all : AreSignals signals
  around : symbols ≡ signals ++ Idle ∷ after

ended_or_not : (symbols : List Sym) → Ended symbols ⊎ AreSignals symbols
ended_or_not [] = inr tt
ended_or_not (s ∷ ss) = by_first (is_signal s) refl (ended_or_not ss)
  where
    by_first : (b : Bool) → is_signal s ≡ b → Ended ss ⊎ AreSignals ss → Ended (s ∷ ss) ⊎ AreSignals (s ∷ ss)
    by_first false e rest = inl (record { signals = []; after = ss; all = tt; around = ap (λ x. x ∷ ss) (idle_is s e) })
    by_first true e (inl r) = inl (record { signals = s ∷ r.signals; after = r.after; all = (no_idle s e, r.all); around = ap (λ xs. s ∷ xs) r.around })
    by_first true e (inr r) = inr (no_idle s e, r)

-- where signals stand in front and Idle ends them, there is a burst
front_found : (t : ℕ) (symbols : List Sym) (burst : Burst) → burst_in_front t symbols ≡ Some burst → Found t true symbols burst
front_found t symbols burst h = by_end (ended_or_not symbols)
  where
    by_signals : (signals after : List Sym) → AreSignals signals → symbols ≡ signals ++ Idle ∷ after → cond (nat_lt 0 (length signals)) (Some (burst_of t signals)) None ≡ Some burst → Found t true symbols burst
    by_signals [] after all around e = cc e
    by_signals (s ∷ ss) after all around e =
        let none : t + 0 ≡ t = omega arith in
        let some : nat_lt 0 (length (s ∷ ss)) ≡ true = lt-ltb 0 (length (s ∷ ss)) (omega arith) in
        record {
          before = [];
          signals = s ∷ ss;
          after = after;
          around = around;
          begins = inl (refl, refl);
          some = λ x. cc x;
          all = all;
          judged = sym (same_Some _ _ (rw some at e)) ∙ ap (λ u. burst_of u (s ∷ ss)) (sym none);
        }

    by_end : Ended symbols ⊎ AreSignals symbols → Found t true symbols burst
    by_end (inl r) = by_signals r.signals r.after r.all r.around (sym (ended_burst t r.signals r.after r.all) ∙ (ap (burst_in_front t) (sym r.around) ∙ h))
    by_end (inr all) = cc (sym (no_ended_burst t symbols all) ∙ h)

-- a burst further on
found_later : (t : ℕ) (after_idle : Bool) (s : Sym) (ss : List Sym) (burst : Burst) → Found (t + 1) (not (is_signal s)) ss burst → Found t after_idle (s ∷ ss) burst
found_later t after_idle s ss burst f =
    let next : (t + 1) + length f.before ≡ t + length (s ∷ f.before) = omega arith in
    record {
      before = s ∷ f.before;
      signals = f.signals;
      after = f.after;
      around = ap (λ xs. s ∷ xs) f.around;
      begins = later (is_signal s) refl f.begins;
      some = f.some;
      all = f.all;
      judged = f.judged ∙ ap (λ u. burst_of u f.signals) next;
    }
  where
    later : (b : Bool) → is_signal s ≡ b → Begins (not b) f.before → Begins after_idle (s ∷ f.before)
    later false e (inl first) = inr ([], ap (λ x. x ∷ f.before) (idle_is s e) ∙ ap (λ xs. Idle ∷ xs) first.0)
    later true e (inl first) = cc first.1
    later b e (inr last) = inr (s ∷ last.0, ap (λ xs. s ∷ xs) last.1)

-- each of bursts, one of which may come first
each_more : (P : Burst → Type 0) (b : Option Burst) (bs : List Burst) → ((x : Burst) → b ≡ Some x → P x) → AllByRecursion P bs → AllByRecursion P (with_burst b bs)
each_more P None bs first all = all
each_more P (Some x) bs first all = (first x refl, all)

weaker : (P Q : Burst → Type 0) (bs : List Burst) → ((x : Burst) → P x → Q x) → AllByRecursion P bs → AllByRecursion Q bs
weaker P Q [] f all = tt
weaker P Q (b ∷ bs) f all = (f b all.0, weaker P Q bs f all.1)

each_found : (t : ℕ) (after_idle : Bool) (symbols : List Sym) → AllByRecursion (Found t after_idle symbols) (bursts_from t after_idle symbols)
each_found t after_idle [] = tt
each_found t after_idle (s ∷ ss) =
    each_more (Found t after_idle (s ∷ ss)) (cond after_idle (burst_in_front t (s ∷ ss)) None) (bursts_from (t + 1) (not (is_signal s)) ss) (here after_idle)
    (weaker (Found (t + 1) (not (is_signal s)) ss) (Found t after_idle (s ∷ ss)) (bursts_from (t + 1) (not (is_signal s)) ss) (found_later t after_idle s ss) (each_found (t + 1) (not (is_signal s)) ss))
  where
    here : (b : Bool) (x : Burst) → cond b (burst_in_front t (s ∷ ss)) None ≡ Some x → Found t b (s ∷ ss) x
    here true x h = front_found t (s ∷ ss) x h
    here false x h = cc h

-- one of bursts, the first of which may come before
first_of : (b : Option Burst) (bs : List Burst) (x : Burst) → b ≡ Some x → Contains (with_burst b bs) x
first_of None bs x h = cc h
first_of (Some y) bs x h = (0, omega arith, same_Some _ _ h)

later_of : (b : Option Burst) (bs : List Burst) (x : Burst) → Contains bs x → Contains (with_burst b bs) x
later_of None bs x h = h
later_of (Some y) bs x h = (suc h.0, omega (arith, h.1), h.2)

no_first : (xs ys : List Sym) (y : Sym) → [] ≡ xs ++ y ∷ ys → ⊥
no_first [] ys y e = cc e
no_first (x ∷ xs) ys y e = cc e

no_symbols : (xs signals after : List Sym) → [] ≡ xs ++ (signals ++ Idle ∷ after) → ⊥
no_symbols [] signals after e = no_first signals after Idle e
no_symbols (x ∷ xs) signals after e = cc e

some_signals : (signals : List Sym) → signals ≢ [] → 0 < length signals
some_signals [] h = absurd (h refl)
some_signals (x ∷ xs) h = omega arith

-- what stands before a burst, without its first symbol
begins_on : (after_idle : Bool) (x : Sym) (xs : List Sym) → Begins after_idle (x ∷ xs) → Begins (not (is_signal x)) xs
begins_on after_idle x xs (inl first) = cc first.0
begins_on after_idle x xs (inr last) = by_front last.0 last.1
  where
    by_front : (front : List Sym) → x ∷ xs ≡ front ++ Idle ∷ [] → Begins (not (is_signal x)) xs
    by_front [] e = inl (ap (drop 1) e, ap (λ l. not (is_signal (get_or l 0 Idle))) e)
    by_front (y ∷ ys) e = inr (ys, ap (drop 1) e)

-- a burst that nothing stands before
burst_first : (t : ℕ) (after_idle : Bool) (symbols signals after : List Sym) → symbols ≡ signals ++ Idle ∷ after → Begins after_idle [] → signals ≢ [] → AreSignals signals
    → Contains (bursts_from t after_idle symbols) (burst_of t signals)
burst_first t after_idle symbols signals after around (inr last) some all = absurd (no_first last.0 [] Idle last.1)
burst_first t after_idle [] signals after around (inl first) some all = absurd (no_first signals after Idle around)
burst_first t after_idle (s ∷ ss) signals after around (inl first) some all =
    let longer : nat_lt 0 (length signals) ≡ true = lt-ltb 0 (length signals) (some_signals signals some) in
    let front : burst_in_front t (s ∷ ss) ≡ Some (burst_of t signals) =
    ap (burst_in_front t) around ∙ (ended_burst t signals after all ∙ ap (λ b. cond b (Some (burst_of t signals)) None) longer) in
    first_of (cond after_idle (burst_in_front t (s ∷ ss)) None) (bursts_from (t + 1) (not (is_signal s)) ss) (burst_of t signals)
    (ap (λ b. cond b (burst_in_front t (s ∷ ss)) None) first.1 ∙ front)

every_found : (before : List Sym) (t : ℕ) (after_idle : Bool) (symbols signals after : List Sym) → symbols ≡ before ++ (signals ++ Idle ∷ after) → Begins after_idle before → signals ≢ []
    → AreSignals signals → Contains (bursts_from t after_idle symbols) (burst_of (t + length before) signals)
every_found [] t after_idle symbols signals after around begins some all =
    let none : t + 0 ≡ t = omega arith in
    rw none (burst_first t after_idle symbols signals after around begins some all)
every_found (x ∷ xs) t after_idle [] signals after around begins some all = absurd (no_symbols (x ∷ xs) signals after around)
every_found (x ∷ xs) t after_idle (s ∷ ss) signals after around begins some all =
    let first : s ≡ x = ap (λ l. get_or l 0 Idle) around in
    let rest : ss ≡ xs ++ (signals ++ Idle ∷ after) = ap (drop 1) around in
    let on : Begins (not (is_signal s)) xs = subst (λ z. Begins (not (is_signal z)) xs) (sym first) (begins_on after_idle x xs begins) in
    let next : (t + 1) + length xs ≡ t + length (x ∷ xs) = omega arith in
    later_of (cond after_idle (burst_in_front t (s ∷ ss)) None) (bursts_from (t + 1) (not (is_signal s)) ss) (burst_of (t + length (x ∷ xs)) signals)
    (subst (λ u. Contains (bursts_from (t + 1) (not (is_signal s)) ss) (burst_of u signals)) next
    (every_found xs (t + 1) (not (is_signal s)) ss signals after rest on some all))

-- the burst in front begins in front
front_start : (t : ℕ) (symbols : List Sym) (x : Burst) → burst_in_front t symbols ≡ Some x → x.start ≡ t
front_start t symbols x h = by_test (has_ended_signals symbols) h
  where
    by_test : (b : Bool) → cond b (Some (burst_of t (signals_in_front symbols))) None ≡ Some x → x.start ≡ t
    by_test true e = ap (λ (y : Burst). y.start) (sym (same_Some _ _ e))
    by_test false e = cc e

-- bursts that begin later
later_order : (t : ℕ) (bs : List Burst) → BeginInOrder (t + 1) bs → BeginInOrder t bs
later_order t [] h = tt
later_order t (b ∷ bs) h = (omega (arith, h.0), h.1)

in_order : (t : ℕ) (after_idle : Bool) (symbols : List Sym) → BeginInOrder t (bursts_from t after_idle symbols)
in_order t after_idle [] = tt
in_order t after_idle (s ∷ ss) = by_front (cond after_idle (burst_in_front t (s ∷ ss)) None) (here after_idle) (in_order (t + 1) (not (is_signal s)) ss)
  where
    here : (b : Bool) (x : Burst) → cond b (burst_in_front t (s ∷ ss)) None ≡ Some x → x.start ≡ t
    here false x h = cc h
    here true x h = front_start t (s ∷ ss) x h

    by_front : (b : Option Burst) → ((x : Burst) → b ≡ Some x → x.start ≡ t) → BeginInOrder (t + 1) (bursts_from (t + 1) (not (is_signal s)) ss)
        → BeginInOrder t (with_burst b (bursts_from (t + 1) (not (is_signal s)) ss))
    by_front None starts rest = later_order t (bursts_from (t + 1) (not (is_signal s)) ss) rest
    by_front (Some x) starts rest =
        let e = starts x refl in
        (omega (arith, e), subst (λ u. BeginInOrder (u + 1) (bursts_from (t + 1) (not (is_signal s)) ss)) (sym e) rest)

-- what begins a burst, in words of half bits
begins_here : (from : ℕ) (before : List Sym) → Begins (from == 0) before → IsBeforeBurst (from + length before) before
begins_here from before (inr last) = inr last
begins_here from before (inl first) =
    let none : length before ≡ 0 = ap length first.0 in
    inl (omega (arith, none, eqb-true from 0 first.1))

begins_there : (from : ℕ) (before : List Sym) → IsBeforeBurst (from + length before) before → Begins (from == 0) before
begins_there from before (inr last) = inr last
begins_there from [] (inl at_zero) = let e : from ≡ 0 = omega (arith, at_zero) in inl (refl, ap (λ n. n == 0) e)
begins_there from (x ∷ xs) (inl at_zero) = absurd (omega (arith, at_zero))

found_is_burst : (from : ℕ) (symbols : List Sym) (burst : Burst) → Found from (from == 0) symbols burst → IsBurst from symbols burst
found_is_burst from symbols burst f =
    record {
      before = f.before;
      signals = f.signals;
      after = f.after;
      around = f.around;
      begins = begins_here from f.before f.begins;
      some = f.some;
      all = f.all;
      judged = f.judged;
    }

-- the bursts in symbols
pub bursts_are_in : (from : ℕ) (symbols : List Sym) → AreBurstsIn from symbols (bursts_of from symbols)
bursts_are_in from symbols =
    record {
      each = weaker (Found from (from == 0) symbols) (IsBurst from symbols) (bursts_of from symbols) (found_is_burst from symbols) (each_found from (from == 0) symbols);
      every = λ burst is. subst (Contains (bursts_of from symbols)) (sym is.judged)
          (every_found is.before from (from == 0) symbols is.signals is.after is.around (begins_there from is.before is.begins) is.some is.all);
      order = in_order from (from == 0) symbols;
    }

-- where the answer is these bursts
pub answer_in : (from : ℕ) (symbols : List Sym) (bursts : List Burst) → bursts ≡ bursts_of from symbols → AreBurstsIn from symbols bursts
answer_in from symbols bursts e = subst (AreBurstsIn from symbols) (sym e) (bursts_are_in from symbols)
