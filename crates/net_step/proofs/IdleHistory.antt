-- Rows of symbols without a signal.
use Rattle.std.proofs.Common.{◌≡◌, ℕ, zero, suc, ◌+◌, ◌-◌, ◌<◌, ◌≤◌, All, true, false, cond, Some, List, [], ◌∷◌, ◌++◌, max, length, replicate, get_or, refl, sym, subst, ap, ap₂, ◌∙◌, arith}
use Rattle.std.specs.Prelude.{◌↔◌}
use Rattle.std.specs.List.{flat_map}
use Rattle.std.proofs.lemmas.Bool.{cond_both}
use Rattle.manchester_line.specs.declared.Sym.{Sym}
use Rattle.manchester_line.specs.declared.Sym.TheVariants.{Idle, Hi, Lo, Clash}
use Rattle.manchester_line.specs.Line.{is_signal}
use Rattle.network.specs.Net.{emitted_before}
use Rattle.quiet_state.specs.LastSignals.{last_signal, IsOverBy}
use Rattle.net_step.specs.KeptNet.{over_from}
use Rattle.net_step.proofs.SignalsSettle.{AllOver, settled_on}

not_signal : (s : Sym) → is_signal s ≡ false → s ≡ Idle
not_signal Idle e = refl
not_signal Hi e = absurd (cc)
not_signal Lo e = absurd (cc)
not_signal Clash e = absurd (cc)

-- a row that has no signal
abbrev pub IsIdleRow : List Sym → Type 0
IsIdleRow row = (i : ℕ) → get_or row i Idle ≡ Idle

pub idle_row : (row : List Sym) → All (λ s. s ≡ Idle) row → IsIdleRow row
idle_row [] h i = refl
idle_row (s ∷ ss) h zero = h 0 Idle (omega arith)
idle_row (s ∷ ss) h (suc i) = idle_row ss (λ j d l. h (suc j) d (omega arith)) i

pub idle_replicate : (n : ℕ) → IsIdleRow (replicate n Idle)
idle_replicate zero i = refl
idle_replicate (suc n) zero = refl
idle_replicate (suc n) (suc i) = idle_replicate n i

pub idle_append : (xs ys : List Sym) → IsIdleRow xs → IsIdleRow ys → IsIdleRow (xs ++ ys)
idle_append [] ys a b i = b i
idle_append (x ∷ xs) ys a b zero = a 0
idle_append (x ∷ xs) ys a b (suc i) = idle_append xs ys (λ j. a (suc j)) b i

-- its signals were over at once
idle_over : (t : ℕ) (needs : List ℕ) (row : List Sym) → IsIdleRow row → over_from t needs row ≡ 0
idle_over t [] row h = refl
idle_over t (n ∷ ns) [] h = refl
idle_over t (n ∷ ns) (s ∷ ss) h =
    let none : cond (is_signal s) (t + n + 1) 0 ≡ 0 = ap (λ x. cond (is_signal x) (t + n + 1) 0) (h 0) in
    let rest = idle_over t ns ss (λ i. h (suc i)) in
    omega (arith, none, rest)

-- a half bit without a signal changes nothing of when all are over
pub settled_idle : (s u : ℕ) (reaches delays : List ℕ) (e d : List Sym) (es ds : List (List Sym)) → IsIdleRow e → IsIdleRow d
    → ((t : ℕ) → (s ≤ t) ↔ AllOver t u reaches delays es ds) → (t : ℕ) → (s ≤ t) ↔ AllOver t (u + 1) reaches delays (e ∷ es) (d ∷ ds)
settled_idle s u reaches delays e d es ds ie id h t =
    let sent = idle_over u reaches e ie in
    let chosen = idle_over u delays d id in
    let same : max (max s (over_from u reaches e)) (over_from u delays d) ≡ s = omega (arith, sent, chosen) in
    subst (λ x. (x ≤ t) ↔ AllOver t (u + 1) reaches delays (e ∷ es) (d ∷ ds)) same (settled_on s u reaches delays e d es ds h t)

-- where the last signal is over by half bit `by`, none was sent since
pub none_since : (rows : List (List Sym)) (t q b needs by : ℕ) → by ≤ t - (b + 1) → IsOverBy by needs (last_signal t rows q) → get_or (get_or rows b []) q Idle ≡ Idle
none_since [] t q b needs by l h = refl
none_since (row ∷ rows) t q zero needs by l h =
    cond_both (is_signal (get_or row q Idle)) (Some (t - 1)) (last_signal (t - 1) rows q) (λ o. IsOverBy by needs o → get_or row q Idle ≡ Idle)
    (λ e late. absurd (omega (arith, late, l))) (λ e late. not_signal (get_or row q Idle) e) h
none_since (row ∷ rows) t q (suc b) needs by l h =
    none_since rows (t - 1) q b needs by (omega arith)
    (cond_both (is_signal (get_or row q Idle)) (Some (t - 1)) (last_signal (t - 1) rows q) (λ o. IsOverBy by needs o → IsOverBy by needs (last_signal (t - 1) rows q))
    (λ e late. absurd (omega (arith, late, l))) (λ e late. late) h)

-- the row of a half bit without a signal leaves the last ones idle
pub idle_before : (row : List Sym) (h : List (List Sym)) (back most q : ℕ) → IsIdleRow row → ((b : ℕ) → b ≤ most → emitted_before h b q ≡ Idle) → back ≤ most → emitted_before (row ∷ h) back q ≡ Idle
idle_before row h zero most q idle before l = refl
idle_before row h (suc zero) most q idle before l = idle q
idle_before row h (suc (suc b)) most q idle before l = before (suc b) (omega arith)
