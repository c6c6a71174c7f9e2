-- Where the last signal of symbols stands.
use Rattle.std.proofs.Common.{◌≡◌, ℕ, zero, suc, min, ◌+◌, ◌-◌, ◌<◌, ◌≤◌, true, false, ltb, cond, inl, inr, List, [], ◌∷◌, ◌++◌, replicate, take, length, length-take-le, get_or, refl, length-append, sym, ap, ap₂, ◌∙◌, arith, rules}
use Rattle.std.proofs.lemmas.List.{append-nil, length-replicate, get_or-take, get_or_past}
use Rattle.std.proofs.lemmas.Bool.{cases_lt}
use Rattle.std.proofs.lemmas.Bool.Decides.{nat_tests}
use Rattle.manchester_line.specs.declared.Sym.{Sym}
use Rattle.manchester_line.specs.declared.Sym.TheVariants.{Idle, Hi, Lo, Clash}
use Rattle.manchester_line.specs.Line.{is_signal}
use Rattle.net_parts.proofs.LateRows.{if_true}
use Rattle.tap_lines.specs.Signals.{signals_end, EndsInSignals, class_at}
use Rattle.tap_lines.specs.TapLines.{TapLine, symbol_on, class_on, class_back, goes_on, line_cut, IsIdleFrom}
use Rattle.tap_lines.proofs.ExtendedLines.{unwritten_size}
use Rattle.tap_lines.proofs.LineClasses.{class_within, class_behind, le_true, lt_true, lt_false}
use Rattle.tap_lines.proofs.LinesAhead.{idle_tail, cut_written}

-- the place behind the last signal
pub end_is : (xs : List Sym) (k : ℕ) → k ≤ length xs → ((i : ℕ) → k ≤ i → i < length xs → get_or xs i Idle ≡ Idle) →
    (0 < k → is_signal (get_or xs (k - 1) Idle) ≡ true) → signals_end xs ≡ k
end_is [] zero h idle last = refl
end_is [] (suc k) h idle last = absurd (omega (arith, h))
end_is (x ∷ xs) zero h idle last =
    let rest : signals_end xs ≡ 0 = end_is xs 0 (omega arith) (λ i l m. idle (suc i) (omega arith) (omega (arith, m))) (λ z. absurd (omega (arith, z))) in
    ap (λ n. cond (ltb 0 n) (suc n) (cond (is_signal x) 1 0)) rest ∙ ap (λ s. cond (is_signal s) 1 0) (idle 0 (omega arith) (omega arith))
end_is (x ∷ xs) (suc zero) h idle last =
    let rest : signals_end xs ≡ 0 = end_is xs 0 (omega arith) (λ i l m. idle (suc i) (omega arith) (omega (arith, m))) (λ z. absurd (omega (arith, z))) in
    ap (λ n. cond (ltb 0 n) (suc n) (cond (is_signal x) 1 0)) rest ∙ ap (λ b. cond b 1 0) (last (omega arith))
end_is (x ∷ xs) (suc (suc k)) h idle last =
    let before : suc (suc k - 1) ≡ suc (suc k) - 1 = omega arith in
    let rest : signals_end xs ≡ suc k = end_is xs (suc k) (omega (arith, h)) (λ i l m. idle (suc i) (omega (arith, l)) (omega (arith, m))) (λ z. ap (λ i. is_signal (get_or (x ∷ xs) i Idle)) before ∙ last (omega arith)) in
    let yes : ltb 0 (suc k) ≡ true = grind (arith, nat_tests) in
    ap (λ n. cond (ltb 0 n) (suc n) (cond (is_signal x) 1 0)) rest ∙ ap (λ b. cond b (suc (suc k)) (cond (is_signal x) 1 0)) yes

-- symbols that end in signals, with Idle behind them
pub end_of_text : (xs : List Sym) (q n : ℕ) → EndsInSignals n xs → length xs ≤ length (xs ++ replicate q Idle) → signals_end (xs ++ replicate q Idle) ≡ length xs
end_of_text xs q n ends fits =
    end_is (xs ++ replicate q Idle) (length xs) fits
    (λ i l m. idle_tail xs q i ∙ get_or_past xs i Idle l)
    (λ more.
    let one = ends.some more in
    ap is_signal (idle_tail xs q (length xs - 1)) ∙ ends.signals (length xs - 1) (omega (arith, one)) (omega (arith, more)))

-- what stands on a line from its first symbol on
pub symbol_at : (l : TapLine) (xs : List Sym) (q v : ℕ) → l.symbols ≡ xs ++ replicate q Idle → l.base ≤ v → symbol_on l v ≡ get_or xs (v - l.base) Idle
symbol_at l xs q v is low =
    if_true {m = l.base} {n = v} _ _ low ∙ ap (λ ys. get_or ys (v - l.base) Idle) is ∙ idle_tail xs q (v - l.base)

pub no_signal : true ≡ false → {A : Type 0} → A
no_signal e = absurd (search rules)

-- how a line goes on whose text has q times Idle behind it
goes_text : (l : TapLine) (xs : List Sym) (q : ℕ) → l.symbols ≡ xs ++ replicate q Idle → goes_on l ≡ is_signal (get_or xs (length xs + q - 1) Idle)
goes_text l xs q is =
    let size : length l.symbols ≡ length xs + q = ap length is ∙ unwritten_size q xs in
    ap₂ (λ ys i. is_signal (get_or ys (i - 1) Idle)) is size ∙ ap is_signal (idle_tail xs q (length xs + q - 1))

-- where there is any, with Idle
goes_rest : (l : TapLine) (xs : List Sym) (q : ℕ) → l.symbols ≡ xs ++ replicate q Idle → 0 < q → goes_on l ≡ false
goes_rest l xs q is some = goes_text l xs q is ∙ ap is_signal (get_or_past xs (length xs + q - 1) Idle (omega (arith, some)))

-- the class of what is at a place of the text, and behind it
pub text_class : (l : TapLine) (xs : List Sym) (q i : ℕ) → l.symbols ≡ xs ++ replicate q Idle → class_at xs (goes_on l) i ≡ class_on l (l.base + i)
text_class l xs q i is =
    let size : length l.symbols ≡ length xs + q = ap length is ∙ unwritten_size q xs in
    let place : l.base + i - l.base ≡ i = omega arith in
    let symbol : symbol_on l (l.base + i) ≡ get_or xs i Idle = symbol_at l xs q (l.base + i) is (omega arith) ∙ ap (λ k. get_or xs k Idle) place in
    let behind_text : length xs ≤ i → class_on l (l.base + i) ≡ goes_on l = λ past. elim (cases_lt (l.base + i) (l.base + length l.symbols)) [
      | inl before ↦
          class_within l (l.base + i) before ∙ ap is_signal (symbol ∙ get_or_past xs i Idle past)
          ∙ sym (goes_rest l xs q is (omega (arith, size, before, past)))
      | inr behind ↦ class_behind l (l.base + i) behind
    ] in
    elim (cases_lt i (length xs)) [
      | inl there ↦
          lt_true {m = i} {n = length xs} (is_signal (get_or xs i Idle)) (goes_on l) there
          ∙ sym (class_within l (l.base + i) (omega (arith, size, there)) ∙ ap is_signal symbol)
      | inr past ↦ lt_false {m = i} {n = length xs} (is_signal (get_or xs i Idle)) (goes_on l) past ∙ sym (behind_text past)
    ]

-- the same, so many half bits before
pub back_class : (l : TapLine) (xs : List Sym) (q t back j : ℕ) → l.symbols ≡ xs ++ replicate q Idle → back ≤ t → l.base ≤ t - back →
    class_at xs (goes_on l) (t - back - l.base + j) ≡ class_back l (t + j) back
back_class l xs q t back j is low high =
    let e : l.base + (t - back - l.base + j) ≡ t + j - back = omega (arith, low, high) in
    text_class l xs q (t - back - l.base + j) is
    ∙ ap (class_on l) e
    ∙ sym (le_true {m = back} {n = t + j} (class_on l (t + j - back)) false (omega (arith, low)))

-- a line that goes on with a signal
pub loud_on : (l : TapLine) (u : ℕ) → goes_on l ≡ true → ¬ IsIdleFrom u l
loud_on l u on idle =
    let v = u + (l.base + length l.symbols) in
    no_signal (sym on ∙ sym (class_behind l v (omega arith)) ∙ idle v (omega arith))

-- a line on which a signal is later, of which so many symbols are written
pub loud_from : (l : TapLine) (items : List Sym) (w q n u : ℕ) → l.symbols ≡ take w items ++ replicate q Idle → w + q ≤ length items → EndsInSignals n (take w items) → 0 < w → u < l.base + w → ¬ IsIdleFrom u l
loud_from l items w q n u is within ends some late idle =
    let text = take w items in
    let size = length-take-le w items (omega (arith, within)) in
    let all : length l.symbols ≡ length text + q = ap length is ∙ unwritten_size q text in
    let one = ends.some (omega (arith, size, some)) in
    let v = l.base + w - 1 in
    let place : v - l.base ≡ w - 1 = omega (arith, some) in
    let signal = ends.signals (w - 1) (omega (arith, one, size)) (omega (arith, size, some)) in
    no_signal (sym signal ∙ ap (λ i. is_signal (get_or text i Idle)) (sym place) ∙ ap is_signal (sym (symbol_at l text q v is (omega (arith, some))))
    ∙ sym (class_within l v (omega (arith, all, size, some))) ∙ idle v (omega (arith, late, some)))

-- symbols that are all Idle
pub idle_piece : (xs : List Sym) → ((j : ℕ) → j < length xs → is_signal (get_or xs j Idle) ≡ false) → replicate (length xs) Idle ≡ xs
idle_piece [] idle = refl
idle_piece (x ∷ xs) idle = ap₂ ◌∷◌ (first x (idle 0 (omega arith))) (idle_piece xs (λ j h. idle (suc j) (omega (arith, h))))
  where
    first : (s : Sym) → is_signal s ≡ false → Idle ≡ s
    first Idle h = refl
    first Hi h = no_signal h
    first Lo h = no_signal h
    first Clash h = no_signal h

-- symbols behind which all is Idle
pub idle_rest : (xs : List Sym) (k m : ℕ) → k + m ≡ length xs → ((i : ℕ) → k ≤ i → i < length xs → get_or xs i Idle ≡ Idle) →
    take k xs ++ replicate m Idle ≡ xs
idle_rest [] zero zero h idle = refl
idle_rest [] zero (suc m) h idle = absurd (omega (arith, h))
idle_rest [] (suc k) m h idle = absurd (omega (arith, h))
idle_rest (x ∷ xs) zero zero h idle = absurd (omega (arith, h))
idle_rest (x ∷ xs) zero (suc m) h idle =
    let first : Idle ≡ x = sym (idle 0 (omega arith) (omega arith)) in
    ap₂ ◌∷◌ first (idle_rest xs 0 m (omega (arith, h)) (λ i l n. idle (suc i) (omega arith) (omega (arith, n))))
idle_rest (x ∷ xs) (suc k) m h idle =
    ap (λ ys. x ∷ ys) (idle_rest xs k m (omega (arith, h)) (λ i l n. idle (suc i) (omega (arith, l)) (omega (arith, n))))

-- symbols that are cut among their last signals
pub ends_cut : (xs : List Sym) (w k n : ℕ) → w ≤ length xs → k ≤ w → w - k < n → EndsInSignals n (take w xs) → EndsInSignals (n - (w - k)) (take k xs)
ends_cut xs w k n within less loud ends =
    let long = length-take-le w xs within in
    let short = length-take-le k xs (omega (arith, within, less)) in
    let few = ends.few in
    record {
      few = omega (arith, few, long, short, less);
      some = λ z. omega (arith, loud);
      signals = λ i l m.
          let before : i < k = omega (arith, m, short) in
          ap is_signal (get_or-take k xs i Idle before ∙ sym (get_or-take w xs i Idle (omega (arith, before, less))))
          ∙ ends.signals i (omega (arith, l, long, short, less, loud)) (omega (arith, before, less, long));
    }

-- symbols whose last is a signal
pub ends_in_one : (xs : List Sym) (k : ℕ) → k ≤ length xs → (0 < k → is_signal (get_or xs (k - 1) Idle) ≡ true) → EndsInSignals (min k 1) (take k xs)
ends_in_one xs k within last =
    let size = length-take-le k xs within in
    record {
      few = omega (arith, size);
      some = λ z. omega (arith, size, z);
      signals = λ i l m.
          let before : i < k = omega (arith, m, size) in
          let e : i ≡ k - 1 = omega (arith, l, m, size) in
          ap is_signal (get_or-take k xs i Idle before ∙ ap (λ j. get_or xs j Idle) e) ∙ last (omega (arith, before));
    }

-- how much is written of a line whose Idle at its end isn't
pub written_is : (items symbols : List Sym) (w q n : ℕ) → w + q ≤ length items → EndsInSignals n (take w items) → take w items ++ replicate q Idle ≡ symbols → signals_end symbols ≡ w
written_is items symbols w q n within ends is =
    let size = length-take-le w items (omega (arith, within)) in
    let sum = length-append (take w items) (replicate q Idle) in
    ap signals_end (sym is) ∙ end_of_text (take w items) q n ends (omega (arith, sum)) ∙ size

pub take_take : (items : List Sym) (w k : ℕ) → k ≤ w → take k (take w items) ≡ take k items
take_take items w zero h = refl
take_take items zero (suc k) h = absurd (omega (arith, h))
take_take [] (suc w) (suc k) h = refl
take_take (x ∷ xs) (suc w) (suc k) h = ap (λ ys. x ∷ ys) (take_take xs w k (omega (arith, h)))

-- a line of which part of what is written is cut, and its last Idle isn't written any more
pub text_cut : (at delay backlog base : ℕ) (items : List Sym) (w q k e m : ℕ) → w + q ≤ length items → k < w → e + m ≡ k → take e items ++ replicate m Idle ≡ take k items →
    ◌≡◌ {A = TapLine} (record { at = at; delay = delay; backlog = backlog; base = base; symbols = take e items ++ replicate m Idle; room = length items - (e + m) })
    (line_cut (base + k) (record { at = at; delay = delay; backlog = backlog; base = base; symbols = take w items ++ replicate q Idle; room = length items - (w + q) }))
text_cut at delay backlog base items w q k e m within less sum rest =
    let text = take w items in
    let size : length text ≡ w = length-take-le w items (omega (arith, within)) in
    let n : base + k - base ≡ k = omega arith in
    let all : length (text ++ replicate q Idle) ≡ w + q = length-append text (replicate q Idle) ∙ ap₂ ◌+◌ size (length-replicate q Idle) in
    let symbols : take e items ++ replicate m Idle ≡ take (base + k - base) (text ++ replicate q Idle) =
    rest
    ∙ sym (take_take items w k (omega (arith, less)))
    ∙ sym (append-nil (take k text))
    ∙ sym (cut_written k q text (omega (arith, less, size)))
    ∙ ap (λ i. take i (text ++ replicate q Idle)) (sym n) in
    let room : length items - (e + m) ≡ length items - (w + q) + (length (text ++ replicate q Idle) - (base + k - base)) = omega (arith, all, n, within, less, sum) in
    λ i. record { at = at; delay = delay; backlog = backlog; base = base; symbols = symbols i; room = room i }
