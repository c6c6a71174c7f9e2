-- From which half bit on all signals so far are over, half bit by half bit.
use Rattle.std.proofs.Common.{◌≡◌, ℕ, zero, suc, ◌+◌, ◌-◌, ◌<◌, ◌≤◌, true, false, cond, Some, List, [], ◌∷◌, ◌++◌, map, drop, max, min, replicate, length, get_or, refl, sym, subst, ap, ap₂, ◌∙◌, arith}
use Rattle.std.specs.Prelude.{◌↔◌}
use Rattle.std.proofs.lemmas.Bool.{cond_both}
use Rattle.std.proofs.lemmas.List.{at_drop_more}
use Rattle.manchester_line.specs.declared.Sym.{Sym}
use Rattle.manchester_line.specs.declared.Sym.TheVariants.{Idle}
use Rattle.manchester_line.specs.Line.{is_signal}
use Rattle.repeater_core.specs.Step.{RepeaterDevice, after}
use Rattle.network.specs.Net.{each_repeater}
use Rattle.quiet_state.specs.LastSignals.{last_signal, IsOverBy, line_delays}
use Rattle.net_step.specs.KeptNet.{over_from, AreOver}

-- the symbols of a row from place k on
pub over_more : (t k : ℕ) (needs : List ℕ) (row : List Sym) → k < length needs → k < length row
    → over_from t (drop k needs) (drop k row) ≡ max (cond (is_signal (get_or row k Idle)) (t + get_or needs k 0 + 1) 0) (over_from t (drop (k + 1) needs) (drop (k + 1) row))
over_more t k needs row ln lr =
    at_drop_more (λ (ns : List ℕ). over_from t ns (drop k row)) needs k 0 ln
    ∙ at_drop_more (over_from t (get_or needs k 0 ∷ drop (k + 1) needs)) row k Idle lr

pub over_step : (from one new rest now all : ℕ) → new ≡ max from one → now ≡ max one rest → max from now ≡ all → max new rest ≡ all
over_step from one new rest now all en eo e = omega (arith, en, eo, e)

pub over_none : (t k : ℕ) (needs : List ℕ) (row : List Sym) → min (length needs) (length row) ≤ k → over_from t (drop k needs) (drop k row) ≡ 0
over_none t zero [] row h = refl
over_none t zero (n ∷ ns) [] h = refl
over_none t zero (n ∷ ns) (s ∷ ss) h = absurd (omega (arith, h))
over_none t (suc k) [] row h = refl
over_none t (suc k) (n ∷ ns) [] h = none_over t (drop k ns)
  where
    none_over : (t : ℕ) (ns : List ℕ) → over_from t ns [] ≡ 0
    none_over t [] = refl
    none_over t (n ∷ ns) = refl
over_none t (suc k) (n ∷ ns) (s ∷ ss) h = over_none t k ns ss (omega (arith, h))

-- one more row
signals_on : (u i : ℕ) (row : List Sym) (rows : List (List Sym)) → last_signal (u + 1) (row ∷ rows) i ≡ cond (is_signal (get_or row i Idle)) (Some u) (last_signal u rows i)
signals_on u i row rows = let same : u + 1 - 1 ≡ u = omega arith in ap (λ v. cond (is_signal (get_or row i Idle)) (Some v) (last_signal v rows i)) same

-- a signal of the row is over from then on
signal_over : (u : ℕ) (needs : List ℕ) (row : List Sym) (i : ℕ) → i < length needs → is_signal (get_or row i Idle) ≡ true → u + get_or needs i 0 + 1 ≤ over_from u needs row
signal_over u [] row i l e = absurd (omega arith)
signal_over u (n ∷ ns) [] i l e = absurd (let both : false ≡ true = e in cc)
signal_over u (n ∷ ns) (s ∷ ss) zero l e = let one : cond (is_signal s) (u + n + 1) 0 ≡ u + n + 1 = ap (λ b. cond b (u + n + 1) 0) e in omega (arith, one)
signal_over u (n ∷ ns) (s ∷ ss) (suc i) l e = let rest = signal_over u ns ss i (omega arith) e in omega (arith, rest)

-- and none needs longer
over_least : (u t : ℕ) (needs : List ℕ) (row : List Sym) → ((i : ℕ) → i < length needs → is_signal (get_or row i Idle) ≡ true → u + get_or needs i 0 < t) → over_from u needs row ≤ t
over_least u t [] row h = omega arith
over_least u t (n ∷ ns) [] h = omega arith
over_least u t (n ∷ ns) (s ∷ ss) h =
    let rest : over_from u ns ss ≤ t = over_least u t ns ss (λ i l e. h (suc i) (omega arith) e) in
    let first : cond (is_signal s) (u + n + 1) 0 ≤ t =
    cond_both (is_signal s) (u + n + 1) 0 (λ m. m ≤ t) (λ e. let soon = h 0 (omega arith) e in omega (arith, soon)) (λ e. omega arith) in
    omega (arith, rest, first)

-- what was over stays so
over_on : (t u i n : ℕ) (needs : List ℕ) (row : List Sym) (rows : List (List Sym)) → i < length needs → over_from u needs row ≤ t → IsOverBy t (get_or needs i 0) (last_signal u rows i) → IsOverBy t (get_or needs i 0) (last_signal (u + 1) (row ∷ rows) i)
over_on t u i n needs row rows l h before =
    subst (IsOverBy t (get_or needs i 0)) (sym (signals_on u i row rows))
    (cond_both (is_signal (get_or row i Idle)) (Some u) (last_signal u rows i) (IsOverBy t (get_or needs i 0))
    (λ e. let past = signal_over u needs row i l e in omega (arith, past, h)) (λ e. before))

pub are_over_on : (t u : ℕ) (needs : List ℕ) (row : List Sym) (rows : List (List Sym)) → over_from u needs row ≤ t → AreOver t u needs rows → AreOver t (u + 1) needs (row ∷ rows)
are_over_on t u needs row rows h before i l = over_on t u i 0 needs row rows l h (before i l)

-- the last signal was sent before half bit u
sent_before : (t u i n : ℕ) (rows : List (List Sym)) → u + n < t → IsOverBy t n (last_signal u rows i)
sent_before t u i n [] h = tt
sent_before t u i n (row ∷ rows) h =
    cond_both (is_signal (get_or row i Idle)) (Some (u - 1)) (last_signal (u - 1) rows i) (IsOverBy t n) (λ e. omega arith) (λ e. sent_before t (u - 1) i n rows (omega arith))

pub are_over_back : (t u : ℕ) (needs : List ℕ) (row : List Sym) (rows : List (List Sym)) → AreOver t (u + 1) needs (row ∷ rows) → AreOver t u needs rows
are_over_back t u needs row rows h i l =
    let n = get_or needs i 0 in
    let now : IsOverBy t n (cond (is_signal (get_or row i Idle)) (Some u) (last_signal u rows i)) = subst (IsOverBy t n) (signals_on u i row rows) (h i l) in
    cond_both (is_signal (get_or row i Idle)) (Some u) (last_signal u rows i) (λ o. IsOverBy t n o → IsOverBy t n (last_signal u rows i))
    (λ e past. sent_before t u i n rows past) (λ e before. before) now

pub row_over : (t u : ℕ) (needs : List ℕ) (row : List Sym) (rows : List (List Sym)) → AreOver t (u + 1) needs (row ∷ rows) → over_from u needs row ≤ t
row_over t u needs row rows h =
    over_least u t needs row (λ i l e.
    let is : last_signal (u + 1) (row ∷ rows) i ≡ Some u = signals_on u i row rows ∙ ap (λ b. cond b (Some u) (last_signal u rows i)) e in
    subst (IsOverBy t (get_or needs i 0)) is (h i l))

-- all signals of taps and ports
abbrev pub AllOver : ℕ → ℕ → List ℕ → List ℕ → List (List Sym) → List (List Sym) → Type 0
AllOver t u reaches delays emitted decided = AreOver t u reaches emitted × AreOver t u delays decided

pub settled_on : (s u : ℕ) (reaches delays : List ℕ) (e d : List Sym) (es ds : List (List Sym)) → ((t : ℕ) → (s ≤ t) ↔ AllOver t u reaches delays es ds)
    → (t : ℕ) → (max (max s (over_from u reaches e)) (over_from u delays d) ≤ t) ↔ AllOver t (u + 1) reaches delays (e ∷ es) (d ∷ ds)
settled_on s u reaches delays e d es ds before t = (
  (λ l.
      let old = (before t).0 (omega (arith, l)) in
      (are_over_on t u reaches e es (omega (arith, l)) old.0, are_over_on t u delays d ds (omega (arith, l)) old.1)),
  (λ over.
      let old : s ≤ t = (before t).1 (are_over_back t u reaches e es over.0, are_over_back t u delays d ds over.1) in
      let sent : over_from u reaches e ≤ t = row_over t u reaches e es over.0 in
      let chosen : over_from u delays d ≤ t = row_over t u delays d ds over.1 in
      omega (arith, old, sent, chosen)),
)

pub settled_first : (s u : ℕ) (reaches delays : List ℕ) → s ≡ 0 → (t : ℕ) → (s ≤ t) ↔ AllOver t u reaches delays [] []
settled_first s u reaches delays e t = ((λ l. ((λ i m. tt), (λ i m. tt))), (λ over. omega (arith, e)))

-- the delays of repeaters stay
pub delays_after : (hs : List Sym) (rs : List RepeaterDevice) → map (λ r. length r.guards) (each_repeater after hs rs) ≡ map (λ r. length r.guards) rs → line_delays (each_repeater after hs rs) ≡ line_delays rs
delays_after hs [] e = refl
delays_after hs (r ∷ rs) e =
    ap₂ (λ n (xs : List ℕ). replicate n r.line.delay ++ xs) (ap (λ (ns : List ℕ). get_or ns 0 0) e) (delays_after (drop (length r.guards) hs) rs (ap (drop 1) e))
