-- Lines that tell more than was emitted so far, and what is left of them when that is cut off.
use Rattle.std.proofs.Common.{◌≡◌, ℕ, zero, suc, min, ◌+◌, ◌-◌, ◌<◌, ◌≤◌, List, [], ◌∷◌, ◌++◌, replicate, take, drop, length, length-drop, length-take-le, get_or, refl, sym, ap, ap₂, ◌∙◌, arith}
use Rattle.std.proofs.lemmas.List.{same_lists, get_or-take, get_or-drop, get_or_default}
use Rattle.manchester_line.specs.declared.Sym.{Sym}
use Rattle.manchester_line.specs.declared.Sym.TheVariants.{Idle}
use Rattle.network.specs.Times.{earlier}
use Rattle.net_parts.specs.Machines.{span}
use Rattle.net_parts.proofs.LateRows.{if_true}
use Rattle.net_parts.proofs.RepeaterSteps.{length-span, get_or-span}
use Rattle.tap_lines.specs.TapLines.{TapLine, symbol_on, line_extended}

-- values that agree
pub span_alike : {X : Type 0} (f g : ℕ → X) (a b n : ℕ) → ((i : ℕ) → i < n → f (a + i) ≡ g (b + i)) → span f a n ≡ span g b n
span_alike f g a b zero h = refl
span_alike f g a b (suc n) h =
    ap₂ ◌∷◌ ((let z : a ≡ a + 0 = omega arith in ap f z) ∙ h 0 (omega arith) ∙ (let z : b + 0 ≡ b = omega arith in ap g z))
    (span_alike f g (suc a) (suc b) n (λ i l. (let z : suc a + i ≡ a + suc i = omega arith in ap f z) ∙ h (suc i) (omega (arith, l)) ∙ (let z : b + suc i ≡ suc b + i = omega arith in ap g z)))

-- symbols of two pieces in a row
take_both : {X : Type 0} (k : ℕ) (xs ys : List X) → take k (xs ++ ys) ≡ take k xs ++ take (k - length xs) ys
take_both zero xs ys = (let e : 0 ≡ 0 - length xs = omega arith in ap (λ n. take n ys) e)
take_both (suc k) [] ys = let e : suc k ≡ suc k - 0 = omega arith in ap (λ n. take n ys) e
take_both (suc k) (x ∷ xs) ys = let e : k - length xs ≡ suc k - suc (length xs) = omega arith in ap (λ zs. x ∷ zs) (take_both k xs ys ∙ ap (λ n. take k xs ++ take n ys) e)

take_more : {X : Type 0} (k : ℕ) (xs : List X) → length xs ≤ k → take k xs ≡ xs
take_more zero [] h = refl
take_more zero (x ∷ xs) h = absurd (omega (arith, h))
take_more (suc k) [] h = refl
take_more (suc k) (x ∷ xs) h = ap (λ zs. x ∷ zs) (take_more k xs (omega (arith, h)))

take_idle : (k q : ℕ) → take k (replicate q Idle) ≡ replicate (min q k) Idle
take_idle zero q = let e : 0 ≡ min q 0 = omega arith in ap (λ n. replicate n Idle) e
take_idle (suc k) zero = let e : 0 ≡ min 0 (suc k) = omega arith in ap (λ n. replicate n Idle) e
take_idle (suc k) (suc q) = let e : suc (min q k) ≡ min (suc q) (suc k) = omega arith in ap (λ zs. Idle ∷ zs) (take_idle k q) ∙ ap (λ n. replicate n Idle) e

-- a line of which what is written is cut, or only Idle
pub cut_written : (k q : ℕ) (xs : List Sym) → k < length xs → take k (xs ++ replicate q Idle) ≡ take k xs ++ replicate 0 Idle
cut_written k q xs h =
    let none : k - length xs ≡ 0 = omega (arith, h) in
    take_both k xs (replicate q Idle) ∙ ap (λ n. take k xs ++ take n (replicate q Idle)) none

pub cut_unwritten : (k q : ℕ) (xs : List Sym) → length xs ≤ k → take k (xs ++ replicate q Idle) ≡ xs ++ replicate (min q (k - length xs)) Idle
cut_unwritten k q xs h = take_both k xs (replicate q Idle) ∙ ap₂ ◌++◌ (take_more k xs h) (take_idle (k - length xs) q)

-- what stands on a line with a piece more
pub get_first : (xs ys : List Sym) (i : ℕ) (d : Sym) → i < length xs → get_or (xs ++ ys) i d ≡ get_or xs i d
get_first [] ys i d h = absurd (omega (arith, h))
get_first (x ∷ xs) ys zero d h = refl
get_first (x ∷ xs) ys (suc i) d h = get_first xs ys i d (omega (arith, h))

pub get_second : (xs ys : List Sym) (i : ℕ) (d : Sym) → get_or (xs ++ ys) (length xs + i) d ≡ get_or ys i d
get_second [] ys i d = let e : 0 + i ≡ i = omega arith in ap (λ k. get_or ys k d) e
get_second (x ∷ xs) ys i d = (let e : suc (length xs) + i ≡ suc (length xs + i) = omega arith in ap (λ k. get_or (x ∷ (xs ++ ys)) k d) e) ∙ get_second xs ys i d

pub symbol_before : (l : TapLine) (piece : List Sym) (u : ℕ) → l.base ≤ u → u < l.base + length l.symbols → symbol_on (line_extended l piece) u ≡ symbol_on l u
symbol_before l piece u low high =
    if_true {m = l.base} {n = u} _ _ low ∙ get_first l.symbols piece (u - l.base) Idle (omega (arith, low, high)) ∙ sym (if_true {m = l.base} {n = u} _ _ low)

pub symbol_ahead : (l : TapLine) (piece : List Sym) (u j : ℕ) → u ≡ l.base + length l.symbols + j → symbol_on (line_extended l piece) u ≡ get_or piece j Idle
symbol_ahead l piece u j is =
    let place : u - l.base ≡ length l.symbols + j = omega (arith, is) in
    if_true {m = l.base} {n = u} _ _ (omega (arith, is)) ∙ ap (λ i. get_or (l.symbols ++ piece) i Idle) place ∙ get_second l.symbols piece j Idle

-- what stands on a line whose Idle at its end isn't written
pub idle_tail : (xs : List Sym) (q i : ℕ) → get_or (xs ++ replicate q Idle) i Idle ≡ get_or xs i Idle
idle_tail [] q i = get_or-idle q i
  where
    get_or-idle : (q i : ℕ) → get_or (replicate q Idle) i Idle ≡ Idle
    get_or-idle zero i = refl
    get_or-idle (suc q) zero = refl
    get_or-idle (suc q) (suc i) = get_or-idle q i
idle_tail (x ∷ xs) q zero = refl
idle_tail (x ∷ xs) q (suc i) = idle_tail xs q i

-- what stands on a line so many half bits before
pub back_is : (l : TapLine) (written : List Sym) (q t back j : ℕ) → l.symbols ≡ written ++ replicate q Idle → back ≤ t → l.base ≤ t - back →
    get_or written (t - back - l.base + j) Idle ≡ earlier (symbol_on l) (t + j) back
back_is l written q t back j is low high =
    let e : t - back - l.base + j ≡ t + j - back - l.base = omega (arith, low, high) in
    sym (if_true {m = back} {n = t + j} _ _ (omega (arith, low))
    ∙ if_true {m = l.base} {n = t + j - back} _ _ (omega (arith, low, high))
    ∙ ap₂ (λ xs i. get_or xs i Idle) is (sym e)
    ∙ idle_tail written q (t - back - l.base + j))

-- what stands on a line so many half bits before, as a piece of what is written
pub back_piece : (l : TapLine) (written : List Sym) (q t back count n : ℕ) → l.symbols ≡ written ++ replicate q Idle → back ≤ t → l.base ≤ t - back →
    t - back - l.base + count ≤ length written → n ≡ count →
    take n (drop (t - back - l.base) written) ≡ span (λ u. earlier (symbol_on l) u back) t count
back_piece l written q t back count n is low high room same =
    let first = t - back - l.base in
    let f = λ (u : ℕ). earlier (symbol_on l) u back in
    let rest = length-drop first written in
    let size : length (take n (drop first written)) ≡ n = length-take-le n (drop first written) (omega (arith, rest, room, same)) in
    let long = length-span f t count in
    same_lists (take n (drop first written)) (span f t count) (omega (arith, size, long, same)) (λ j d h.
    let in_it : j < count = omega (arith, h, size, same) in
    let there : first + j < length written = omega (arith, in_it, room) in
    get_or-take n (drop first written) j d (omega (arith, in_it, same))
    ∙ get_or-drop first written j d
    ∙ get_or_default written (first + j) d Idle there
    ∙ back_is l written q t back j is low high
    ∙ sym (get_or-span f t count j d in_it))
