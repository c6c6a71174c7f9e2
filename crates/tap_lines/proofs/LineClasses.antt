-- Where signals are on lines that go on as they end, and what taps hear by them.
use Rattle.std.proofs.Common.{◌≡◌, ◌≢◌, ℕ, suc, ◌+◌, ◌-◌, ◌<◌, ◌≤◌, ◌||◌, ◌++◌, Bool, true, false, cond, eqb, leb, ltb, inl, inr, List, [], ◌∷◌, length, length-append, get_or, refl, sym, subst, ap, ap₂, ◌∙◌, arith}
use Rattle.std.proofs.lemmas.Bool.{cases_lt, cases_eq, eq-eqb, false≢true}
use Rattle.std.proofs.lemmas.Bool.Decides.{nat_tests}
use Rattle.std.proofs.lemmas.List.{append-nil, get_or_past}
use Rattle.mac_parameters.specs.Distances.{distance}
use Rattle.manchester_line.specs.declared.Sym.{Sym}
use Rattle.manchester_line.specs.declared.Sym.TheVariants.{Idle, Hi, Lo, Clash}
use Rattle.manchester_line.specs.Line.{is_signal}
use Rattle.net_parts.proofs.LateRows.{if_true, if_false}
use Rattle.tap_lines.specs.TapLines.{TapLine, no_line, symbol_on, half_bits_back, line_extended, goes_on, class_on, class_back, class_of_lines, class_by_lines, IsIdleFrom}
use Rattle.tap_lines.proofs.LinesAhead.{get_second, symbol_before, symbol_ahead}

pub le_true : {m n : ℕ} (x y : Bool) → m ≤ n → cond (leb m n) x y ≡ x
le_true x y h = grind (arith, nat_tests)

pub le_false : {m n : ℕ} (x y : Bool) → n < m → cond (leb m n) x y ≡ y
le_false x y h = grind (arith, nat_tests)

pub lt_true : {m n : ℕ} (x y : Bool) → m < n → cond (ltb m n) x y ≡ x
lt_true x y h = grind (arith, nat_tests)

pub lt_false : {m n : ℕ} (x y : Bool) → n ≤ m → cond (ltb m n) x y ≡ y
lt_false x y h = grind (arith, nat_tests)

-- a line where it hasn't ended, and behind its end
pub class_within : (l : TapLine) (u : ℕ) → u < l.base + length l.symbols → class_on l u ≡ is_signal (symbol_on l u)
class_within l u h = lt_true {m = u} {n = l.base + length l.symbols} _ _ h

pub class_behind : (l : TapLine) (u : ℕ) → l.base + length l.symbols ≤ u → class_on l u ≡ goes_on l
class_behind l u h = lt_false {m = u} {n = l.base + length l.symbols} _ _ h

pub symbol_behind : (l : TapLine) (u : ℕ) → l.base + length l.symbols ≤ u → symbol_on l u ≡ Idle
symbol_behind l u h = if_true {m = l.base} {n = u} _ _ (omega (arith, h)) ∙ get_or_past l.symbols (u - l.base) Idle (omega (arith, h))

-- where it goes on with Idle
pub class_off : (l : TapLine) (u : ℕ) → goes_on l ≡ false → class_on l u ≡ is_signal (symbol_on l u)
class_off l u off = elim (cases_lt u (l.base + length l.symbols)) [
  | inl before ↦ class_within l u before
  | inr behind ↦ class_behind l u behind ∙ off ∙ sym (ap is_signal (symbol_behind l u behind))
]

no_signal : (s : Sym) → is_signal s ≡ false → s ≡ Idle
no_signal Idle h = refl
no_signal Hi h = absurd (false≢true (sym h))
no_signal Lo h = absurd (false≢true (sym h))
no_signal Clash h = absurd (false≢true (sym h))

-- a line on which nothing but Idle is, as symbols
pub idle_on : (u v : ℕ) (l : TapLine) → IsIdleFrom u l → u ≤ v → symbol_on l v ≡ Idle
idle_on u v l idle late = elim (cases_lt v (l.base + length l.symbols)) [
  | inl before ↦ no_signal (symbol_on l v) (sym (class_within l v before) ∙ idle v late)
  | inr behind ↦ symbol_behind l v behind
]

-- a line with symbols at its end is as before where it hadn't ended, and where it has the first of them, if they are as it went on
symbol_there : (l : TapLine) (ss : List Sym) (a : ℕ) → a < l.base + length l.symbols → symbol_on (line_extended l ss) a ≡ symbol_on l a
symbol_there l ss a h = elim (cases_lt a l.base) [
  | inl early ↦ if_false {m = l.base} {n = a} _ _ early ∙ sym (if_false {m = l.base} {n = a} _ _ early)
  | inr low ↦ symbol_before l ss a low h
]

pub class_before : (l : TapLine) (ss : List Sym) (a : ℕ) → a < l.base + length l.symbols → class_on (line_extended l ss) a ≡ class_on l a
class_before l ss a h =
    let sum = length-append l.symbols ss in
    class_within (line_extended l ss) a (omega (arith, h, sum)) ∙ ap is_signal (symbol_there l ss a h) ∙ sym (class_within l a h)

pub class_alike : (l : TapLine) (ss : List Sym) (k a : ℕ) → k ≤ length ss → ((j : ℕ) → j < k → is_signal (get_or ss j Idle) ≡ goes_on l) →
    a < l.base + length l.symbols + k → class_on (line_extended l ss) a ≡ class_on l a
class_alike l ss k a few alike h = elim (cases_lt a (l.base + length l.symbols)) [
  | inl before ↦ class_before l ss a before
  | inr behind ↦
      let sum = length-append l.symbols ss in
      let j = a - (l.base + length l.symbols) in
      class_within (line_extended l ss) a (omega (arith, h, few, sum))
      ∙ ap is_signal (symbol_ahead l ss a j (omega (arith, behind)))
      ∙ alike j (omega (arith, h, behind))
      ∙ sym (class_behind l a behind)
]

-- with symbols that are all as it went on it is as before everywhere
goes_alike : (l : TapLine) (ss : List Sym) → ((j : ℕ) → j < length ss → is_signal (get_or ss j Idle) ≡ goes_on l) → goes_on (line_extended l ss) ≡ goes_on l
goes_alike l [] alike = ap (λ xs. is_signal (get_or xs (length xs - 1) Idle)) (append-nil l.symbols)
goes_alike l (s ∷ ss) alike =
    let sum = length-append l.symbols (s ∷ ss) in
    let last : length (l.symbols ++ (s ∷ ss)) - 1 ≡ length l.symbols + length ss = omega (arith, sum) in
    ap (λ i. is_signal (get_or (l.symbols ++ (s ∷ ss)) i Idle)) last
    ∙ ap is_signal (get_second l.symbols (s ∷ ss) (length ss) Idle)
    ∙ alike (length ss) (omega arith)

pub class_all_alike : (l : TapLine) (ss : List Sym) (a : ℕ) → ((j : ℕ) → j < length ss → is_signal (get_or ss j Idle) ≡ goes_on l) →
    class_on (line_extended l ss) a ≡ class_on l a
class_all_alike l ss a alike = elim (cases_lt a (l.base + length l.symbols + length ss)) [
  | inl before ↦ class_alike l ss (length ss) a (omega arith) alike before
  | inr behind ↦
      let sum = length-append l.symbols ss in
      class_behind (line_extended l ss) a (omega (arith, behind, sum))
      ∙ goes_alike l ss alike
      ∙ sym (class_behind l a (omega (arith, behind)))
]

-- whether tap p, at a place, hears a signal of a line that is tap q's
abbrev class_of_one : ℕ → ℕ → ℕ → ℕ → ℕ → TapLine → Bool
class_of_one L t p at q l = cond (eqb q p) false (class_back l t (half_bits_back L at l))

lines_same : (L t p at q : ℕ) (ls ls' : List TapLine) → length ls' ≡ length ls →
    ((i r : ℕ) → i < length ls → r ≡ q + i → class_of_one L t p at r (get_or ls' i no_line) ≡ class_of_one L t p at r (get_or ls i no_line)) →
    class_of_lines L t p at q ls' ≡ class_of_lines L t p at q ls
lines_same L t p at q [] [] many same = refl
lines_same L t p at q [] (l' ∷ ls') many same = absurd (omega (arith, many))
lines_same L t p at q (l ∷ ls) [] many same = absurd (omega (arith, many))
lines_same L t p at q (l ∷ ls) (l' ∷ ls') many same =
    ap₂ (λ (b c : Bool). b || c)
    (same 0 q (omega arith) (omega arith))
    (lines_same L t p at (q + 1) ls ls' (omega (arith, many)) (λ i r h e. same (suc i) r (omega (arith, h)) (omega (arith, e))))

back_same : (b t : ℕ) (l l' : TapLine) → (b ≤ t → class_on l' (t - b) ≡ class_on l (t - b)) → class_back l' t b ≡ class_back l t b
back_same b t l l' same = elim (cases_lt t b) [
  | inl early ↦ le_false {m = b} {n = t} _ _ early ∙ sym (le_false {m = b} {n = t} _ _ early)
  | inr late ↦ le_true {m = b} {n = t} _ _ late ∙ same late ∙ sym (le_true {m = b} {n = t} _ _ late)
]

one_same : (L t p at r : ℕ) (l l' : TapLine) → l'.at ≡ l.at → l'.delay ≡ l.delay →
    (half_bits_back L at l ≤ t → class_on l' (t - half_bits_back L at l) ≡ class_on l (t - half_bits_back L at l)) →
    class_of_one L t p at r l' ≡ class_of_one L t p at r l
one_same L t p at r l l' place wait same =
    let way : half_bits_back L at l' ≡ half_bits_back L at l = ap₂ (λ x d. distance at x + d - L) place wait in
    ap (λ b. cond (eqb r p) false (class_back l' t b)) way
    ∙ ap (λ c. cond (eqb r p) false c) (back_same (half_bits_back L at l) t l l' same)

-- lines at the same places, each of which is as before where the tap hears it
pub class_same : (L t p : ℕ) (ls ls' : List TapLine) → length ls' ≡ length ls → (get_or ls' p no_line).at ≡ (get_or ls p no_line).at →
    ((r : ℕ) → r < length ls → r ≢ p → (get_or ls' r no_line).at ≡ (get_or ls r no_line).at) →
    ((r : ℕ) → r < length ls → r ≢ p → (get_or ls' r no_line).delay ≡ (get_or ls r no_line).delay) →
    ((r : ℕ) → r < length ls → r ≢ p → half_bits_back L (get_or ls p no_line).at (get_or ls r no_line) ≤ t →
    class_on (get_or ls' r no_line) (t - half_bits_back L (get_or ls p no_line).at (get_or ls r no_line))
    ≡ class_on (get_or ls r no_line) (t - half_bits_back L (get_or ls p no_line).at (get_or ls r no_line))) →
    class_by_lines L t ls' p ≡ class_by_lines L t ls p
class_same L t p ls ls' many place places delays alike =
    let at = (get_or ls p no_line).at in
    ap (λ x. class_of_lines L t p x 0 ls') place
    ∙ lines_same L t p at 0 ls ls' many (λ i r h e. elim (cases_eq r p) [
      | inl own ↦
          let same : eqb r p ≡ true = eq-eqb r p own in
          let l = get_or ls i no_line in
          let l' = get_or ls' i no_line in
          ap (λ b. cond b false (class_back l' t (half_bits_back L at l'))) same
          ∙ sym (ap (λ b. cond b false (class_back l t (half_bits_back L at l))) same)
      | inr differs ↦
          let other : i ≢ p = λ z. differs (omega (arith, e, z)) in
          one_same L t p at r (get_or ls i no_line) (get_or ls' i no_line) (places i h other) (delays i h other) (alike i h other)
    ])

-- lines of which that of tap p alone has changed, and a signal is on it below half bit `from` where one was
pub record IsAlikeBelow (p from : ℕ) (ls ls' : List TapLine) : Type 0 where
  pub many : length ls' ≡ length ls
  pub place : (get_or ls' p no_line).at ≡ (get_or ls p no_line).at
  pub wait : (get_or ls' p no_line).delay ≡ (get_or ls p no_line).delay
  pub others : (r : ℕ) (d : TapLine) → r ≢ p → get_or ls' r d ≡ get_or ls r d
  pub alike : (a : ℕ) → a < from → class_on (get_or ls' p no_line) a ≡ class_on (get_or ls p no_line) a

place_alike : (p from q : ℕ) (ls ls' : List TapLine) → IsAlikeBelow p from ls ls' → (get_or ls' q no_line).at ≡ (get_or ls q no_line).at
place_alike p from q ls ls' is = elim (cases_eq q p) [
  | inl own ↦ subst (λ j. (get_or ls' j no_line).at ≡ (get_or ls j no_line).at) (sym own) is.place
  | inr differs ↦ ap (λ (l : TapLine). l.at) (is.others q no_line differs)
]

wait_alike : (p from q : ℕ) (ls ls' : List TapLine) → IsAlikeBelow p from ls ls' → (get_or ls' q no_line).delay ≡ (get_or ls q no_line).delay
wait_alike p from q ls ls' is = elim (cases_eq q p) [
  | inl own ↦ subst (λ j. (get_or ls' j no_line).delay ≡ (get_or ls j no_line).delay) (sym own) is.wait
  | inr differs ↦ ap (λ (l : TapLine). l.delay) (is.others q no_line differs)
]

-- each tap hears the same classes up to the half bit in which it hears the change
pub heard_alike : (L p from t q : ℕ) (ls ls' : List TapLine) → IsAlikeBelow p from ls ls' →
    t < from + half_bits_back L (get_or ls q no_line).at (get_or ls p no_line) → class_by_lines L t ls' q ≡ class_by_lines L t ls q
heard_alike L p from t q ls ls' is below =
    let at = (get_or ls q no_line).at in
    class_same L t q ls ls' is.many (place_alike p from q ls ls' is)
    (λ r h d. place_alike p from r ls ls' is)
    (λ r h d. wait_alike p from r ls ls' is)
    (λ r h d late. elim (cases_eq r p) [
      | inl own ↦
          let a = t - half_bits_back L at (get_or ls r no_line) in
          let way : half_bits_back L at (get_or ls r no_line) ≡ half_bits_back L at (get_or ls p no_line) = ap (λ j. half_bits_back L at (get_or ls j no_line)) own in
          subst (λ j. class_on (get_or ls' j no_line) a ≡ class_on (get_or ls j no_line) a) (sym own) (is.alike a (omega (arith, below, late, way)))
      | inr differs ↦ ap (λ l. class_on l (t - half_bits_back L at (get_or ls r no_line))) (is.others r no_line differs)
    ])

-- where the line is alike everywhere, in all half bits
pub heard_unchanged : (L p t q : ℕ) (ls ls' : List TapLine) → ((from : ℕ) → IsAlikeBelow p from ls ls') → class_by_lines L t ls' q ≡ class_by_lines L t ls q
heard_unchanged L p t q ls ls' is = heard_alike L p (suc t) t q ls ls' (is (suc t)) (omega arith)
