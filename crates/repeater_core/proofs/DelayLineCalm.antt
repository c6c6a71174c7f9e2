-- The Idle symbols before the first signal, and the calm of a delay line: it falls by one with each row of Idle.
use Rattle.std.proofs.Common.{◌≡◌, ℕ, zero, suc, ◌+◌, ◌-◌, ◌*◌, ◌/◌, ◌<◌, ◌≤◌, cond, eqb, List, [], ◌∷◌, ◌++◌, length, take, drop, replicate, refl, sym, ap, ap₂, subst, ◌∙◌, arith, length-append, length-drop, inl, inr, mul-le-mul_right}
use Rattle.std.proofs.lemmas.Bool.Decides.{nat_tests}
use Rattle.std.proofs.lemmas.Bool.{cases_eq, cond-true, cond-false, eq-eqb, ne_eqb}
use Rattle.std.proofs.lemmas.List.{length-replicate, take_all}
use Rattle.std.proofs.Math.Nat.{div-lt_iff_lt-mul, div-mul-le_self, div-eq-sub-div}
use Rattle.std.proofs.lemmas.List.Elements.{All-head, All-tail}
use Rattle.std.specs.List.{All}
use Rattle.repeater_core.specs.Limits.{most_calm}
use Rattle.mac_parameters.specs.Parameters.{greatest_delay}
use Rattle.manchester_line.specs.declared.Sym.{Sym}
use Rattle.manchester_line.specs.declared.Sym.TheVariants as sy
use Rattle.repeater_core.specs.Delayed.{Delayed, rotated, oldest}
use Rattle.repeater_core.specs.SilentParts.{idle_front, line_calm, silent_line}
use Rattle.repeater_core.proofs.SilentModes.{fallen}

pub front_le : (xs : List Sym) → idle_front xs ≤ length xs
front_le [] = omega arith
front_le (sy.Idle ∷ xs) = let h = front_le xs in omega arith
front_le (sy.Hi ∷ xs) = omega arith
front_le (sy.Lo ∷ xs) = omega arith
front_le (sy.Clash ∷ xs) = omega arith

at_append : (f g n : ℕ) → cond (eqb f n) (n + g) f + 1 ≡ cond (eqb (f + 1) (suc n)) (suc n + g) (f + 1)
at_append f g n = grind (arith, nat_tests)

none_append : (g n : ℕ) → zero ≡ cond (eqb 0 (suc n)) (suc n + g) 0
none_append g n = grind (arith, nat_tests)

pub front_append : (xs ys : List Sym) → idle_front (xs ++ ys) ≡ cond (eqb (idle_front xs) (length xs)) (length xs + idle_front ys) (idle_front xs)
front_append [] ys = omega arith
front_append (sy.Idle ∷ xs) ys = ap (λ n. n + 1) (front_append xs ys) ∙ at_append (idle_front xs) (idle_front ys) (length xs)
front_append (sy.Hi ∷ xs) ys = none_append (idle_front ys) (length xs)
front_append (sy.Lo ∷ xs) ys = none_append (idle_front ys) (length xs)
front_append (sy.Clash ∷ xs) ys = none_append (idle_front ys) (length xs)

pub front_take : (n : ℕ) (xs : List Sym) → n ≤ idle_front xs → take n xs ≡ replicate n sy.Idle
front_take zero xs l = refl
front_take (suc n) [] l = absurd (omega arith)
front_take (suc n) (sy.Idle ∷ xs) l = ap (λ ys. sy.Idle ∷ ys) (front_take n xs (omega arith))
front_take (suc n) (sy.Hi ∷ xs) l = absurd (omega arith)
front_take (suc n) (sy.Lo ∷ xs) l = absurd (omega arith)
front_take (suc n) (sy.Clash ∷ xs) l = absurd (omega arith)

pub front_drop : (n : ℕ) (xs : List Sym) → n ≤ idle_front xs → idle_front (drop n xs) ≡ idle_front xs - n
front_drop zero xs l = omega arith
front_drop (suc n) [] l = absurd (omega arith)
front_drop (suc n) (sy.Idle ∷ xs) l = let h = front_drop n xs (omega arith) in omega arith
front_drop (suc n) (sy.Hi ∷ xs) l = absurd (omega arith)
front_drop (suc n) (sy.Lo ∷ xs) l = absurd (omega arith)
front_drop (suc n) (sy.Clash ∷ xs) l = absurd (omega arith)

pub front_idle : (n : ℕ) → idle_front (replicate n sy.Idle) ≡ n
front_idle zero = refl
front_idle (suc n) = let h = front_idle n in omega arith

pub front_of_take : (n : ℕ) (xs : List Sym) → n ≤ length xs → All (λ s. s ≡ sy.Idle) (take n xs) → n ≤ idle_front xs
front_of_take zero xs l h = omega arith
front_of_take (suc n) [] l h = absurd (omega arith)
front_of_take (suc n) (sy.Idle ∷ xs) l h = let e = front_of_take n xs (omega arith) (All-tail (λ s. s ≡ sy.Idle) sy.Idle (take n xs) h) in omega arith
front_of_take (suc n) (sy.Hi ∷ xs) l h = let e : sy.Hi ≡ sy.Idle = All-head (λ s. s ≡ sy.Idle) sy.Hi (take n xs) h in absurd (cc)
front_of_take (suc n) (sy.Lo ∷ xs) l h = let e : sy.Lo ≡ sy.Idle = All-head (λ s. s ≡ sy.Idle) sy.Lo (take n xs) h in absurd (cc)
front_of_take (suc n) (sy.Clash ∷ xs) l h = let e : sy.Clash ≡ sy.Idle = All-head (λ s. s ≡ sy.Idle) sy.Clash (take n xs) h in absurd (cc)

pub front_of_all : (xs : List Sym) → All (λ s. s ≡ sy.Idle) xs → idle_front xs ≡ length xs
front_of_all [] h = refl
front_of_all (sy.Idle ∷ xs) h = let e = front_of_all xs (All-tail (λ s. s ≡ sy.Idle) sy.Idle xs h) in omega arith
front_of_all (sy.Hi ∷ xs) h = let e : sy.Hi ≡ sy.Idle = All-head (λ s. s ≡ sy.Idle) sy.Hi xs h in absurd (cc)
front_of_all (sy.Lo ∷ xs) h = let e : sy.Lo ≡ sy.Idle = All-head (λ s. s ≡ sy.Idle) sy.Lo xs h in absurd (cc)
front_of_all (sy.Clash ∷ xs) h = let e : sy.Clash ≡ sy.Idle = All-head (λ s. s ≡ sy.Idle) sy.Clash xs h in absurd (cc)

-- a ring read from h on
pub front_near : (h front : ℕ) (xs : List Sym) → front ≡ idle_front (take (length xs - h) (drop h xs)) → front < length xs - h → front ≡ idle_front (rotated h xs)
front_near h front xs e l =
    let len = length-drop h xs in
    let all : take (length xs - h) (drop h xs) ≡ drop h xs = take_all (length xs - h) (drop h xs) (omega arith) in
    let is : front ≡ idle_front (drop h xs) = e ∙ ap idle_front all in
    let some : idle_front (drop h xs) ≡ length (drop h xs) → ⊥ = λ same. omega arith in
    is ∙ sym (front_append (drop h xs) (take h xs) ∙ cond-false (eqb (idle_front (drop h xs)) (length (drop h xs))) _ _ (ne_eqb (idle_front (drop h xs)) (length (drop h xs)) some))

pub front_far : (h front rest : ℕ) (xs : List Sym) → front ≡ idle_front (take (length xs - h) (drop h xs)) → length xs - h ≤ front → rest ≡ idle_front (take h xs) → front + rest ≡ idle_front (rotated h xs)
front_far h front rest xs e l r =
    let len = length-drop h xs in
    let all : take (length xs - h) (drop h xs) ≡ drop h xs = take_all (length xs - h) (drop h xs) (omega arith) in
    let is : front ≡ idle_front (drop h xs) = e ∙ ap idle_front all in
    let most = front_le (drop h xs) in
    let same : idle_front (drop h xs) ≡ length (drop h xs) = omega arith in
    ap₂ ◌+◌ (is ∙ same) r ∙ sym (front_append (drop h xs) (take h xs) ∙ cond-true (eqb (idle_front (drop h xs)) (length (drop h xs))) _ _ (eq-eqb (idle_front (drop h xs)) (length (drop h xs)) same))

-- what is asked of a line
pub record IsLine (d : Delayed) : Type 0 where
  pub some_port : 0 < d.ports
  pub rows_len : length d.rows ≡ d.delay * d.ports
  pub some_delay : 1 ≤ d.delay
  pub delay_at_most : d.delay ≤ greatest_delay

pub row_within : (d : Delayed) → IsLine d → d.ports ≤ length d.rows
row_within d h = let m : 1 * d.ports ≤ d.delay * d.ports = mul-le-mul_right d.ports h.some_delay in let e = h.rows_len in omega arith

pub calm_all : (d : Delayed) → idle_front d.rows ≡ length d.rows → line_calm d ≡ most_calm
calm_all d e = cond-true (eqb (idle_front d.rows) (length d.rows)) _ _ (eq-eqb (idle_front d.rows) (length d.rows) e)

pub calm_some : (d : Delayed) → (idle_front d.rows ≡ length d.rows → ⊥) → line_calm d ≡ idle_front d.rows / d.ports
calm_some d e = cond-false (eqb (idle_front d.rows) (length d.rows)) _ _ (ne_eqb (idle_front d.rows) (length d.rows) e)

few_rows : (d : Delayed) → IsLine d → idle_front d.rows < length d.rows → idle_front d.rows / d.ports < greatest_delay
few_rows d h l =
    let e = h.rows_len in
    let few : idle_front d.rows / d.ports < d.delay = (div-lt_iff_lt-mul {k = d.ports} {x = idle_front d.rows} {y = d.delay} h.some_port).1 (omega arith) in
    let most = h.delay_at_most in omega arith

pub first_row_idle : (d : Delayed) → IsLine d → 0 < line_calm d → d.ports ≤ idle_front d.rows
first_row_idle d h l = elim (cases_eq (idle_front d.rows) (length d.rows)) [
  | inl e ↦ (let w = row_within d h in omega arith)
  | inr ne ↦
      let some : 0 < idle_front d.rows / d.ports = subst (λ n. 0 < n) (calm_some d ne) l in
      let m : 1 * d.ports ≤ idle_front d.rows / d.ports * d.ports = mul-le-mul_right d.ports some in
      let below = div-mul-le_self (idle_front d.rows) d.ports in omega arith
]

pub first_row_signals : (d : Delayed) → IsLine d → line_calm d ≡ 0 → All (λ s. s ≡ sy.Idle) (oldest d) → ⊥
first_row_signals d h z i = elim (cases_eq (idle_front d.rows) (length d.rows)) [
  | inl e ↦ (let big = calm_all d e in omega arith)
  | inr ne ↦
      let row : d.ports ≤ idle_front d.rows = front_of_take d.ports d.rows (row_within d h) i in
      let none : idle_front d.rows / d.ports ≡ 0 = sym (calm_some d ne) ∙ z in
      let more : idle_front d.rows / d.ports ≡ (idle_front d.rows - d.ports) / d.ports + 1 = div-eq-sub-div h.some_port row in
      omega arith
]

fallen_all : (a b : ℕ) → a ≡ most_calm → b ≡ most_calm → a ≡ fallen b
fallen_all a b e f = grind (arith, nat_tests)

fallen_some : (a b q r : ℕ) → a ≡ r → b ≡ q → q ≡ r + 1 → q < greatest_delay → a ≡ fallen b
fallen_some a b q r e f m l = grind (arith, nat_tests)

pub line_falls : (d : Delayed) → IsLine d → 0 < line_calm d → line_calm (silent_line d) ≡ fallen (line_calm d)
line_falls d h l =
    let p = d.ports in
    let xs = d.rows in
    let row : p ≤ idle_front xs = first_row_idle d h l in
    let within = row_within d h in
    let most = front_le xs in
    let fd = front_drop p xs row in
    let ld = length-drop p xs in
    let fr = front_idle p in
    let lr = length-replicate p sy.Idle in
    let la = length-append (drop p xs) (replicate p sy.Idle) in
    let fa = front_append (drop p xs) (replicate p sy.Idle) in
    let a = idle_front (drop p xs) in
    let b = length (drop p xs) in
    elim (cases_eq (idle_front xs) (length xs)) [
      | inl e ↦
          let same : a ≡ b = omega arith in
          let now : idle_front (drop p xs ++ replicate p sy.Idle) ≡ length (drop p xs ++ replicate p sy.Idle) =
          fa ∙ cond-true (eqb a b) _ _ (eq-eqb a b same) ∙ (let k : b + idle_front (replicate p sy.Idle) ≡ length (drop p xs ++ replicate p sy.Idle) = omega arith in k) in
          fallen_all (line_calm (silent_line d)) (line_calm d) (calm_all (silent_line d) now) (calm_all d e)
      | inr ne ↦
          let less : idle_front xs < length xs = omega arith in
          let apart : a ≡ b → ⊥ = λ same. omega arith in
          let now : idle_front (drop p xs ++ replicate p sy.Idle) ≡ a = fa ∙ cond-false (eqb a b) _ _ (ne_eqb a b apart) in
          let ends : idle_front (drop p xs ++ replicate p sy.Idle) ≡ length (drop p xs ++ replicate p sy.Idle) → ⊥ = λ same. omega arith in
          let more : idle_front xs / p ≡ (idle_front xs - p) / p + 1 = div-eq-sub-div h.some_port row in
          let left : line_calm (silent_line d) ≡ (idle_front xs - p) / p = calm_some (silent_line d) ends ∙ ap (λ n. n / p) (now ∙ fd) in
          fallen_some (line_calm (silent_line d)) (line_calm d) (idle_front xs / p) ((idle_front xs - p) / p) left (calm_some d ne) more (few_rows d h less)
    ]

pub calm_at_most : (d : Delayed) → IsLine d → line_calm d ≤ most_calm
calm_at_most d h = elim (cases_eq (idle_front d.rows) (length d.rows)) [
  | inl e ↦ (let c = calm_all d e in omega arith)
  | inr ne ↦ (let c = calm_some d ne in let most = front_le d.rows in let few = few_rows d h (omega arith) in omega arith)
]
