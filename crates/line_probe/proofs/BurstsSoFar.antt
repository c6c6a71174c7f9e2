-- The bursts in symbols, run by run.
use Rattle.std.proofs.Common.{◌≡◌, ◌≢◌, ℕ, zero, suc, ◌+◌, ◌<◌, ◌≤◌, Bool, true, false, cond, not, List, [], ◌∷◌, ◌++◌, length, take, drop, get_or, replicate, refl, sym, ap, subst, ◌∙◌, arith, None, Some, append_assoc, length-append}
use Rattle.std.specs.Prelude.{Option, nat_lt, ◌&&◌, ◌==◌}
use Rattle.std.specs.Option.{is_none}
use Rattle.std.specs.List.{AllByRecursion, prefix_len}
use Rattle.std.proofs.lemmas.Bool.{lt-ltb, le-ltb}
use Rattle.std.proofs.lemmas.List.{append-nil, drop_all, drop_more, take_all}
use Rattle.std.proofs.Math.Seq.{take-append_seam}
use Rattle.manchester_line.specs.Decoding.{Decoding, Decodes}
use Rattle.manchester_line.specs.Line.{is_signal}
use Rattle.manchester_line.specs.Reading.{octets_of_bits, reading, spare_of_bits}
use Rattle.manchester_line.specs.declared.Sym.{Sym}
use Rattle.manchester_line.specs.declared.Sym.TheVariants.{Idle, Hi, Lo, Clash}
use Rattle.line_probe.specs.Bursts.{burst_in_front, burst_of, bursts_from, bursts_of, signals_in_front, with_burst}
use Rattle.line_probe.specs.Runs.{AreJoined, AreRunsOf, first_start, symbols_of_runs}
use Rattle.line_probe.specs.declared.burst.Burst.{Burst}
use Rattle.line_probe.specs.declared.run.Run.{Run}
use Rattle.line_probe.proofs.TextsRead.{symbols_count}

-- these symbols are all signals
abbrev pub AreSignals : List Sym → Type 0
AreSignals symbols = AllByRecursion (λ s. s ≢ Idle) symbols

signal_is : (s : Sym) → s ≢ Idle → is_signal s ≡ true
signal_is Idle h = absurd (h refl)
signal_is Hi h = refl
signal_is Lo h = refl
signal_is Clash h = refl

-- signals before Idle
front_before_idle : (xs ys : List Sym) → AreSignals xs → prefix_len is_signal (xs ++ Idle ∷ ys) ≡ length xs
front_before_idle [] ys all = refl
front_before_idle (x ∷ xs) ys all = rw (signal_is x all.0, front_before_idle xs ys all.1) (omega arith)

-- signals and nothing else
front_is_all : (xs : List Sym) → AreSignals xs → prefix_len is_signal xs ≡ length xs
front_is_all [] all = refl
front_is_all (x ∷ xs) all = rw (signal_is x all.0, front_is_all xs all.1) (omega arith)

-- what begins with signals that Idle ends
pub ended_burst : (t : ℕ) (xs ys : List Sym) → AreSignals xs → burst_in_front t (xs ++ Idle ∷ ys) ≡ cond (nat_lt 0 (length xs)) (Some (burst_of t xs)) None
ended_burst t xs ys all =
    let front : signals_in_front (xs ++ Idle ∷ ys) ≡ xs = ap (λ n. take n (xs ++ Idle ∷ ys)) (front_before_idle xs ys all) ∙ take-append_seam xs (Idle ∷ ys) in
    let shorter : nat_lt (length xs) (length (xs ++ Idle ∷ ys)) ≡ true = lt-ltb (length xs) (length (xs ++ Idle ∷ ys)) (omega (arith, length-append xs (Idle ∷ ys))) in
    let tested : cond (nat_lt 0 (length xs) && true) (Some (burst_of t xs)) None ≡ cond (nat_lt 0 (length xs)) (Some (burst_of t xs)) None = by_length (nat_lt 0 (length xs)) in
    rw (front, shorter) tested
  where
    by_length : (b : Bool) → cond (b && true) (Some (burst_of t xs)) None ≡ cond b (Some (burst_of t xs)) None
    by_length true = refl
    by_length false = refl

-- signals that nothing ends
pub no_ended_burst : (t : ℕ) (xs : List Sym) → AreSignals xs → burst_in_front t xs ≡ None
no_ended_burst t xs all =
    let front : signals_in_front xs ≡ xs = ap (λ n. take n xs) (front_is_all xs all) ∙ (ap (take (length xs)) (sym (append-nil xs)) ∙ take-append_seam xs []) in
    let whole : nat_lt (length xs) (length xs) ≡ false = le-ltb (length xs) (length xs) (omega arith) in
    let tested : cond (nat_lt 0 (length xs) && false) (Some (burst_of t xs)) None ≡ None = by_length (nat_lt 0 (length xs)) in
    rw (front, whole) tested
  where
    by_length : (b : Bool) → cond (b && false) (Some (burst_of t xs)) None ≡ None
    by_length true = refl
    by_length false = refl

-- within a run no burst begins
within_run : (t n : ℕ) (s : Sym) (more : List Sym) → bursts_from t (not (is_signal s)) (replicate n s ++ more) ≡ bursts_from (t + n) (not (is_signal s)) more
within_run t zero s more = let e : t + 0 ≡ t = omega arith in ap (λ u. bursts_from u (not (is_signal s)) more) (sym e)
within_run t (suc n) s more =
    let e : (t + 1) + n ≡ t + suc n = omega arith in
    none_in_front s ∙ within_run (t + 1) n s more ∙ ap (λ u. bursts_from u (not (is_signal s)) more) e
  where
    none_in_front : (s : Sym) → bursts_from t (not (is_signal s)) (s ∷ (replicate n s ++ more)) ≡ bursts_from (t + 1) (not (is_signal s)) (replicate n s ++ more)
    none_in_front Idle = refl
    none_in_front Hi = refl
    none_in_front Lo = refl
    none_in_front Clash = refl

-- the bursts in a run and in what comes after it
pub run_taken : (after_idle : Bool) (r : Run) (rs : List Run) → 1 ≤ r.count
    → bursts_from r.start after_idle (symbols_of_runs (r ∷ rs))
    ≡ with_burst (cond after_idle (burst_in_front r.start (symbols_of_runs (r ∷ rs))) None) (bursts_from (r.start + r.count) (not (is_signal r.symbol)) (symbols_of_runs rs))
run_taken after_idle r rs some = by_count r.count refl
  where
    by_count : (n : ℕ) → r.count ≡ n → bursts_from r.start after_idle (symbols_of_runs (r ∷ rs))
        ≡ with_burst (cond after_idle (burst_in_front r.start (symbols_of_runs (r ∷ rs))) None) (bursts_from (r.start + r.count) (not (is_signal r.symbol)) (symbols_of_runs rs))
    by_count zero e = absurd (omega (arith, e, some))
    by_count (suc n) e =
        let one : (r.start + 1) + n ≡ r.start + suc n = omega arith in
        rw e (ap (λ bs. with_burst (cond after_idle (burst_in_front r.start (replicate (suc n) r.symbol ++ symbols_of_runs rs)) None) bs)
        (within_run (r.start + 1) n r.symbol (symbols_of_runs rs) ∙ ap (λ u. bursts_from u (not (is_signal r.symbol)) (symbols_of_runs rs)) one))

-- the runs before one, that one, and those after it
runs_around : (runs : List Run) (i : ℕ) (d : Run) → i < length runs → symbols_of_runs runs ≡ symbols_of_runs (take i runs) ++ symbols_of_runs (get_or runs i d ∷ drop (i + 1) runs)
runs_around [] i d lt = absurd (omega arith)
runs_around (r ∷ rs) zero d lt = refl
runs_around (r ∷ rs) (suc i) d lt =
    let e : suc i + 1 ≡ suc (i + 1) = omega arith in
    rw e (ap (λ ss. replicate r.count r.symbol ++ ss) (runs_around rs i d (omega arith))
    ∙ sym (append_assoc (replicate r.count r.symbol) (symbols_of_runs (take i rs)) (symbols_of_runs (get_or rs i d ∷ drop (i + 1) rs))))

-- the symbols with one run more
runs_taken : (runs : List Run) (i : ℕ) (d : Run) → i < length runs
    → symbols_of_runs (take (i + 1) runs) ≡ symbols_of_runs (take i runs) ++ replicate (get_or runs i d).count (get_or runs i d).symbol
runs_taken [] i d lt = absurd (omega arith)
runs_taken (r ∷ rs) zero d lt = append-nil (replicate r.count r.symbol)
runs_taken (r ∷ rs) (suc i) d lt =
    let e : suc i + 1 ≡ suc (i + 1) = omega arith in
    rw e (ap (λ ss. replicate r.count r.symbol ++ ss) (runs_taken rs i d (omega arith))
    ∙ sym (append_assoc (replicate r.count r.symbol) (symbols_of_runs (take i rs)) (replicate (get_or rs i d).count (get_or rs i d).symbol)))

-- each run has a half bit
pub some_half_bits : (from : ℕ) (runs : List Run) (i : ℕ) (d : Run) → AreJoined from runs → i < length runs → 1 ≤ (get_or runs i d).count
some_half_bits from [] i d joined lt = absurd (omega arith)
some_half_bits from (r ∷ rs) zero d joined lt = joined.1
some_half_bits from (r ∷ rs) (suc i) d joined lt = some_half_bits (from + r.count) rs i d joined.2 (omega arith)

pub idle_is : (s : Sym) → is_signal s ≡ false → s ≡ Idle
idle_is Idle h = refl
idle_is Hi h = cc h
idle_is Lo h = cc h
idle_is Clash h = cc h

pub no_idle : (s : Sym) → is_signal s ≡ true → s ≢ Idle
no_idle Idle h e = cc h
no_idle Hi h e = cc e
no_idle Lo h e = cc e
no_idle Clash h e = cc e

signals_append : (xs ys : List Sym) → AreSignals xs → AreSignals ys → AreSignals (xs ++ ys)
signals_append [] ys all more = more
signals_append (x ∷ xs) ys all more = (all.0, signals_append xs ys all.1 more)

signals_repeated : (n : ℕ) (s : Sym) → s ≢ Idle → AreSignals (replicate n s)
signals_repeated zero s h = tt
signals_repeated (suc n) s h = (h, signals_repeated n s h)

-- the first Idle run after signals ends them
pub idle_run_ends : (t : ℕ) (runs : List Run) (i : ℕ) (d : Run) → i < length runs → 1 ≤ (get_or runs i d).count → is_signal (get_or runs i d).symbol ≡ false → AreSignals (symbols_of_runs (take i runs))
    → burst_in_front t (symbols_of_runs runs) ≡ cond (nat_lt 0 (length (symbols_of_runs (take i runs)))) (Some (burst_of t (symbols_of_runs (take i runs)))) None
idle_run_ends t runs i d lt some idle all = by_count (get_or runs i d).count refl
  where
    by_count : (n : ℕ) → (get_or runs i d).count ≡ n
        → burst_in_front t (symbols_of_runs runs) ≡ cond (nat_lt 0 (length (symbols_of_runs (take i runs)))) (Some (burst_of t (symbols_of_runs (take i runs)))) None
    by_count zero e = absurd (omega (arith, e, some))
    by_count (suc n) e =
        let after = symbols_of_runs (drop (i + 1) runs) in
        let run : replicate (get_or runs i d).count (get_or runs i d).symbol ≡ Idle ∷ replicate n Idle =
        ap (λ m. replicate m (get_or runs i d).symbol) e ∙ ap (replicate (suc n)) (idle_is (get_or runs i d).symbol idle) in
        ap (burst_in_front t) (runs_around runs i d lt ∙ ap (λ ss. symbols_of_runs (take i runs) ++ (ss ++ after)) run)
        ∙ ended_burst t (symbols_of_runs (take i runs)) (replicate n Idle ++ after) all

-- there is room for one run more
pub run_fits : (runs : List Run) (i : ℕ) (d : Run) → i < length runs → length (symbols_of_runs (take i runs)) + (get_or runs i d).count ≤ length (symbols_of_runs runs)
run_fits runs i d lt =
    let all = ap length (runs_around runs i d lt) in
    let parts = length-append (symbols_of_runs (take i runs)) (symbols_of_runs (get_or runs i d ∷ drop (i + 1) runs)) in
    omega (arith, all, parts, symbols_count (get_or runs i d) (drop (i + 1) runs))

-- one run of signals more
pub signals_more : (runs : List Run) (i : ℕ) (d : Run) → i < length runs → is_signal (get_or runs i d).symbol ≡ true → AreSignals (symbols_of_runs (take i runs)) → AreSignals (symbols_of_runs (take (i + 1) runs))
signals_more runs i d lt signal all =
    subst AreSignals (sym (runs_taken runs i d lt))
    (signals_append (symbols_of_runs (take i runs)) (replicate (get_or runs i d).count (get_or runs i d).symbol) all (signals_repeated (get_or runs i d).count (get_or runs i d).symbol (no_idle (get_or runs i d).symbol signal)))

-- a decoder that was given one run more
pub decodes_run : (runs : List Run) (i : ℕ) (d : Run) (decoder : Decoding) → i < length runs → Decodes (symbols_of_runs (take i runs) ++ replicate (get_or runs i d).count (get_or runs i d).symbol) decoder
    → Decodes (symbols_of_runs (take (i + 1) runs)) decoder
decodes_run runs i d decoder lt h = subst (λ ss. Decodes ss decoder) (sym (runs_taken runs i d lt)) h

-- where all runs are signals, none ends
pub no_run_ends : (t : ℕ) (runs : List Run) (i : ℕ) → length runs ≤ i → AreSignals (symbols_of_runs (take i runs)) → burst_in_front t (symbols_of_runs runs) ≡ None
no_run_ends t runs i le all = no_ended_burst t (symbols_of_runs runs) (subst (λ rs. AreSignals (symbols_of_runs rs)) (take_all i runs le) all)

-- a whole reception
pub judged_whole : (start n octets spare : ℕ) (halves : List Sym) → n ≡ length halves → 0 < n → is_none (reading halves) ≡ false
    → ((bits : List Bool) → reading halves ≡ Some bits → octets ≡ length (octets_of_bits bits)) → ((bits : List Bool) → reading halves ≡ Some bits → spare ≡ spare_of_bits bits)
    → Some (record { start = start; halves = n; spoiled = false; octets = octets; spare = spare }) ≡ cond (nat_lt 0 (length halves)) (Some (burst_of start halves)) None
judged_whole start n octets spare halves size some whole count left = rw (lt-ltb 0 (length halves) (omega (arith, size, some)), size) (by_reading (reading halves) refl whole)
  where
    by_reading : (r : Option (List Bool)) → reading halves ≡ r → is_none r ≡ false → Some (record { start = start; halves = length halves; spoiled = false; octets = octets; spare = spare }) ≡ Some (burst_of start halves)
    by_reading None e h = cc h
    by_reading (Some bits) e h = rw (e, count bits e, left bits e) refl

with_burst_onto : (bursts : List Burst) (b : Option Burst) (rest : List Burst) → bursts ++ with_burst b rest ≡ (bursts ++ with_burst b []) ++ rest
with_burst_onto bursts None rest = ap (λ bs. bs ++ rest) (sym (append-nil bursts))
with_burst_onto bursts (Some b) rest = sym (append_assoc bursts (b ∷ []) rest)

-- the next run begins where one ends
next_start : (r : Run) (rs : List Run) (after_idle : Bool) → AreJoined (r.start + r.count) rs
    → bursts_from (r.start + r.count) after_idle (symbols_of_runs rs) ≡ bursts_from (first_start rs) after_idle (symbols_of_runs rs)
next_start r [] after_idle joined = refl
next_start r (x ∷ xs) after_idle joined = ap (λ t. bursts_from t after_idle (symbols_of_runs (x ∷ xs))) (sym joined.0)

-- the bursts so far with the one that begins with the first of these runs, and those after it
bursts_with_run : (bursts : List Burst) (after_idle : Bool) (r : Run) (rs : List Run) → AreJoined r.start (r ∷ rs)
    → (bursts ++ with_burst (cond after_idle (burst_in_front r.start (symbols_of_runs (r ∷ rs))) None) []) ++ bursts_from (first_start rs) (not (is_signal r.symbol)) (symbols_of_runs rs)
    ≡ bursts ++ bursts_from r.start after_idle (symbols_of_runs (r ∷ rs))
bursts_with_run bursts after_idle r rs joined =
    let here = cond after_idle (burst_in_front r.start (symbols_of_runs (r ∷ rs))) None in
    sym (with_burst_onto bursts here (bursts_from (first_start rs) (not (is_signal r.symbol)) (symbols_of_runs rs)))
    ∙ ap (λ bs. bursts ++ with_burst here bs) (sym (next_start r rs (not (is_signal r.symbol)) joined.2))
    ∙ ap (λ bs. bursts ++ bs) (sym (run_taken after_idle r rs joined.1))

-- joined runs from one of them on
pub joined_rest : (from : ℕ) (runs : List Run) (k : ℕ) (d : Run) → AreJoined from runs → k < length runs → AreJoined (get_or runs k d).start (drop k runs)
joined_rest from [] k d joined lt = absurd (omega arith)
joined_rest from (r ∷ rs) zero d joined lt = subst (λ t. AreJoined t (r ∷ rs)) (sym joined.0) joined
joined_rest from (r ∷ rs) (suc k) d joined lt = joined_rest (from + r.count) rs k d joined.2 (omega arith)

-- and their symbols
pub fewer_symbols : (runs : List Run) (k : ℕ) → length (symbols_of_runs (drop k runs)) ≤ length (symbols_of_runs runs)
fewer_symbols [] zero = omega arith
fewer_symbols [] (suc k) = omega arith
fewer_symbols (r ∷ rs) zero = omega arith
fewer_symbols (r ∷ rs) (suc k) = omega (arith, fewer_symbols rs k, symbols_count r rs)

-- one run more
pub bursts_step : (from : ℕ) (runs : List Run) (k : ℕ) (d : Run) (bursts : List Burst) (after_idle : Bool) → AreJoined from runs → k < length runs
    → (bursts ++ with_burst (cond after_idle (burst_in_front (get_or runs k d).start (symbols_of_runs (drop k runs))) None) [])
    ++ bursts_from (first_start (drop (k + 1) runs)) (not (is_signal (get_or runs k d).symbol)) (symbols_of_runs (drop (k + 1) runs))
    ≡ bursts ++ bursts_from (first_start (drop k runs)) after_idle (symbols_of_runs (drop k runs))
bursts_step from runs k d bursts after_idle joined lt =
    let r = get_or runs k d in
    let on : drop k runs ≡ r ∷ drop (k + 1) runs = drop_more runs k d lt in
    let joins : AreJoined r.start (r ∷ drop (k + 1) runs) = subst (AreJoined r.start) on (joined_rest from runs k d joined lt) in
    rw on (bursts_with_run bursts after_idle r (drop (k + 1) runs) joins)

-- all of them
pub bursts_done : (from : ℕ) (symbols : List Sym) (runs : List Run) (k : ℕ) (bursts : List Burst) (after_idle : Bool) → AreRunsOf from symbols runs → length runs ≤ k
    → bursts ++ bursts_from (first_start (drop k runs)) after_idle (symbols_of_runs (drop k runs)) ≡ bursts_from (first_start runs) (first_start runs == 0) (symbols_of_runs runs)
    → bursts ≡ bursts_of from symbols
bursts_done from symbols runs k bursts after_idle are le h =
    sym (append-nil bursts) ∙ ap (λ rs. bursts ++ bursts_from (first_start rs) after_idle (symbols_of_runs rs)) (sym (drop_all k runs le)) ∙ h ∙ by_first runs are
  where
    by_first : (rs : List Run) → AreRunsOf from symbols rs → bursts_from (first_start rs) (first_start rs == 0) (symbols_of_runs rs) ≡ bursts_of from symbols
    by_first [] is = ap (λ ss. bursts_of from ss) is.symbols_are
    by_first (r ∷ rs) is = ap (λ t. bursts_of t (symbols_of_runs (r ∷ rs))) is.joined.0 ∙ ap (λ ss. bursts_of from ss) is.symbols_are
