-- Whether a tap hears a signal or Idle, by the lines of listed taps as they go on.
use Rattle.std.proofs.Common.{◌≡◌, ◌≢◌, ℕ, zero, suc, ◌+◌, ◌-◌, ◌<◌, ◌≤◌, ◌||◌, Bool, true, false, cond, eqb, inl, inr, List, [], ◌∷◌, length, get_or, refl, sym, subst, ap, ap₂, ◌∙◌, arith}
use Rattle.std.proofs.lemmas.Bool.{cases_lt, cases_eq, ne_eqb, eq-eqb}
use Rattle.std.proofs.lemmas.List.{get_or_read}
use Rattle.manchester_line.specs.declared.Sym.{Sym}
use Rattle.manchester_line.specs.declared.Sym.TheVariants.{Idle, Hi, Lo, Clash}
use Rattle.manchester_line.specs.Line.{is_signal}
use Rattle.network.specs.Times.{earlier}
use Rattle.tap_lines.specs.TapLines.{TapLine, no_line, symbol_on, class_on, class_back, class_of_line, class_of_lines, class_by_lines, half_bits_back, heard_of_line, IsOnlySource, IsReachOf}
use Rattle.tap_lines.specs.TapLists.{AreIdleButFor, HearsListed}
use Rattle.tap_lines.proofs.EndsOfSignals.{no_signal}
use Rattle.tap_lines.proofs.LineClasses.{le_true, le_false}
use Rattle.tap_lines.proofs.HeardLines.{other_line}

or_first : (a b : Bool) → a ≡ true → a || b ≡ true
or_first true b h = refl
or_first false b h = no_signal (sym h)

or_second : (a b : Bool) → b ≡ true → a || b ≡ true
or_second true b h = refl
or_second false b h = h

or_false : (a : Bool) → a || false ≡ a
or_false true = refl
or_false false = refl

pub idle_symbol : (s : Sym) → is_signal s ≡ false → s ≡ Idle
idle_symbol Idle h = refl
idle_symbol Hi h = no_signal h
idle_symbol Lo h = no_signal h
idle_symbol Clash h = no_signal h

pub not_true : (b : Bool) → b ≢ true → b ≡ false
not_true true h = absurd (h refl)
not_true false h = refl

pub not_false : (b : Bool) → b ≢ false → b ≡ true
not_false true h = refl
not_false false h = absurd (h refl)

-- lines of which one lets a tap hear a signal
signal_of_lines : (L t p at k i : ℕ) (ls : List TapLine) → i < length ls →
    cond (eqb (k + i) p) false (class_back (get_or ls i no_line) t (half_bits_back L at (get_or ls i no_line))) ≡ true →
    class_of_lines L t p at k ls ≡ true
signal_of_lines L t p at k i [] h signal = absurd (omega (arith, h))
signal_of_lines L t p at k zero (l ∷ ls) h signal =
    let first : k ≡ k + 0 = omega arith in
    or_first _ (class_of_lines L t p at (k + 1) ls) (ap (λ n. cond (eqb n p) false (class_back l t (half_bits_back L at l))) first ∙ signal)
signal_of_lines L t p at k (suc i) (l ∷ ls) h signal =
    let next : k + 1 + i ≡ k + suc i = omega arith in
    or_second _ (class_of_lines L t p at (k + 1) ls) (signal_of_lines L t p at (k + 1) i ls (omega (arith, h))
    (ap (λ n. cond (eqb n p) false (class_back (get_or ls i no_line) t (half_bits_back L at (get_or ls i no_line)))) next ∙ signal))

by_signal : (L u p q : ℕ) (ls : List TapLine) → q < length ls → class_of_line L u ls p q ≡ true → class_by_lines L u ls p ≡ true
by_signal L u p q ls h signal =
    let none : 0 + q ≡ q = omega arith in
    let at = (get_or ls p no_line).at in
    signal_of_lines L u p at 0 q ls h
    (ap (λ n. cond (eqb n p) false (class_back (get_or ls q no_line) u (half_bits_back L at (get_or ls q no_line)))) none ∙ signal)

-- lines none of which lets a tap hear a signal
none_class : (L t p at k : ℕ) (ls : List TapLine) →
    ((i : ℕ) → i < length ls → cond (eqb (k + i) p) false (class_back (get_or ls i no_line) t (half_bits_back L at (get_or ls i no_line))) ≡ false) →
    class_of_lines L t p at k ls ≡ false
none_class L t p at k [] h = refl
none_class L t p at k (l ∷ ls) h =
    let first : k ≡ k + 0 = omega arith in
    ap₂ (λ (b c : Bool). b || c)
    (ap (λ n. cond (eqb n p) false (class_back l t (half_bits_back L at l))) first ∙ h 0 (omega arith))
    (none_class L t p at (k + 1) ls (λ i m.
    let next : k + 1 + i ≡ k + suc i = omega arith in
    ap (λ n. cond (eqb n p) false (class_back (get_or ls i no_line) t (half_bits_back L at (get_or ls i no_line)))) next ∙ h (suc i) (omega (arith, m))))

-- lines of which only one may let a tap hear a signal
one_class : (L t p at k q : ℕ) (ls : List TapLine) → q < length ls →
    ((i : ℕ) → i < length ls → i ≢ q → cond (eqb (k + i) p) false (class_back (get_or ls i no_line) t (half_bits_back L at (get_or ls i no_line))) ≡ false) →
    class_of_lines L t p at k ls ≡ cond (eqb (k + q) p) false (class_back (get_or ls q no_line) t (half_bits_back L at (get_or ls q no_line)))
one_class L t p at k q [] h others = absurd (omega (arith, h))
one_class L t p at k zero (l ∷ ls) h others =
    let sound = cond (eqb k p) false (class_back l t (half_bits_back L at l)) in
    let first : k ≡ k + 0 = omega arith in
    ap (λ (b : Bool). sound || b) (none_class L t p at (k + 1) ls (λ i m.
    let next : k + 1 + i ≡ k + suc i = omega arith in
    ap (λ n. cond (eqb n p) false (class_back (get_or ls i no_line) t (half_bits_back L at (get_or ls i no_line)))) next ∙ others (suc i) (omega (arith, m)) (λ e. omega (arith, e))))
    ∙ or_false sound
    ∙ ap (λ n. cond (eqb n p) false (class_back l t (half_bits_back L at l))) first
one_class L t p at k (suc q) (l ∷ ls) h others =
    let first : k ≡ k + 0 = omega arith in
    let there : k + 1 + q ≡ k + suc q = omega arith in
    let rest = class_of_lines L t p at (k + 1) ls in
    ap (λ (b : Bool). b || rest) (ap (λ n. cond (eqb n p) false (class_back l t (half_bits_back L at l))) first ∙ others 0 (omega arith) (λ e. omega (arith, e)))
    ∙ one_class L t p at (k + 1) q ls (omega (arith, h)) (λ i m other.
    let next : k + 1 + i ≡ k + suc i = omega arith in
    ap (λ n. cond (eqb n p) false (class_back (get_or ls i no_line) t (half_bits_back L at (get_or ls i no_line)))) next ∙ others (suc i) (omega (arith, m)) (λ e. other (omega (arith, e))))
    ∙ ap (λ n. cond (eqb n p) false (class_back (get_or ls q no_line) t (half_bits_back L at (get_or ls q no_line)))) there

false_either : (b : Bool) → cond b false false ≡ false
false_either true = refl
false_either false = refl

-- a line on which nothing stands any more
silent_class : (L t far p q : ℕ) (ls : List TapLine) → IsReachOf far L ls → p < length ls → q < length ls →
    ((v : ℕ) → t - far ≤ v → class_on (get_or ls q no_line) v ≡ false) → class_of_line L t ls p q ≡ false
silent_class L t far p q ls within hp hq silent =
    let back = half_bits_back L (get_or ls p no_line).at (get_or ls q no_line) in
    let near = within p q hp hq in
    let there : class_back (get_or ls q no_line) t back ≡ false = elim (cases_lt t back) [
      | inl early ↦ le_false {m = back} {n = t} _ _ early
      | inr late ↦ le_true {m = back} {n = t} _ _ late ∙ silent (t - back) (omega (arith, near, late))
    ] in
    ap (λ x. cond (eqb q p) false x) there ∙ false_either (eqb q p)

-- a tap doesn't hear itself
pub own_line_class : (L u p q : ℕ) (ls : List TapLine) → q ≡ p → class_of_line L u ls p q ≡ false
own_line_class L u p q ls own =
    ap (λ b. cond b false (class_back (get_or ls q no_line) u (half_bits_back L (get_or ls p no_line).at (get_or ls q no_line)))) (eq-eqb q p own)

-- what a tap hears of another's line, as it is read from the line
other_class : (L u p q at back : ℕ) (ls : List TapLine) (tap line : TapLine) → q ≢ p →
    tap ≡ get_or ls p no_line → line ≡ get_or ls q no_line → at ≡ tap.at → back ≡ half_bits_back L at line →
    class_of_line L u ls p q ≡ class_back line u back
other_class L u p q at back ls tap line differs tap_is line_is at_is back_is =
    let there : at ≡ (get_or ls p no_line).at = at_is ∙ ap (λ (l : TapLine). l.at) tap_is in
    let way : back ≡ half_bits_back L (get_or ls p no_line).at (get_or ls q no_line) = back_is ∙ ap₂ (λ x l. half_bits_back L x l) there line_is in
    ap (λ b. cond b false (class_back (get_or ls q no_line) u (half_bits_back L (get_or ls p no_line).at (get_or ls q no_line)))) (ne_eqb q p differs)
    ∙ sym (ap₂ (λ l b. class_back l u b) line_is way)

-- a tap hears the only line on which anything stands
only_class : (L t far u p q : ℕ) (ls : List TapLine) → IsReachOf far L ls → p < length ls → IsOnlySource (t - far) ls q → t ≤ u →
    class_by_lines L u ls p ≡ class_of_line L u ls p q
only_class L t far u p q ls within hp only late =
    let at = (get_or ls p no_line).at in
    let none : 0 + q ≡ q = omega arith in
    one_class L u p at 0 q ls only.within (λ i m other.
    let first : 0 + i ≡ i = omega arith in
    ap (λ n. cond (eqb n p) false (class_back (get_or ls i no_line) u (half_bits_back L at (get_or ls i no_line)))) first
    ∙ silent_class L u far p i ls within hp m (λ v after. only.others i v m other (omega (arith, late, after))))
    ∙ ap (λ n. cond (eqb n p) false (class_back (get_or ls q no_line) u (half_bits_back L at (get_or ls q no_line)))) none

pub own_class : (L t far u p q : ℕ) (ls : List TapLine) → IsReachOf far L ls → p < length ls → IsOnlySource (t - far) ls q → t ≤ u → q ≡ p →
    class_by_lines L u ls p ≡ false
own_class L t far u p q ls within hp only late own = only_class L t far u p q ls within hp only late ∙ own_line_class L u p q ls own

-- the same, where it isn't the tap's own and is read from the line
pub only_back : (L t far u p q at back : ℕ) (ls : List TapLine) (tap line : TapLine) → IsReachOf far L ls → p < length ls → IsOnlySource (t - far) ls q → t ≤ u → q ≢ p →
    tap ≡ get_or ls p no_line → line ≡ get_or ls q no_line → at ≡ tap.at → back ≡ half_bits_back L at line →
    class_by_lines L u ls p ≡ class_back line u back
only_back L t far u p q at back ls tap line within hp only late differs tap_is line_is at_is back_is =
    only_class L t far u p q ls within hp only late ∙ other_class L u p q at back ls tap line differs tap_is line_is at_is back_is

-- a number is among the first n or not
listed_or_not : (q n : ℕ) (ns : List ℕ) (P : Type 0) → (((i : ℕ) → i < n → get_or ns i 0 ≢ q) → P) → ((i : ℕ) → i < n → get_or ns i 0 ≡ q → P) → P
listed_or_not q zero ns P out on = out (λ i h. absurd (omega (arith, h)))
listed_or_not q (suc n) ns P out on = elim (cases_eq (get_or ns n 0) q) [
  | inl same ↦ on n (omega arith) same
  | inr differs ↦ listed_or_not q n ns P
      (λ others. out (λ i h. elim (cases_lt i n) [
        | inl before ↦ others i before
        | inr now ↦ let e : n ≡ i = omega (arith, h, now) in subst (λ k. get_or ns k 0 ≢ q) e differs
      ]))
      (λ i h. on i (omega (arith, h)))
]

-- a tap to which nothing that is listed is a signal
pub all_idle : (L t far u p : ℕ) (ls : List TapLine) (ns : List ℕ) → IsReachOf far L ls → p < length ls → AreIdleButFor (t - far) ls ns → t ≤ u →
    ((i : ℕ) → i < length ns → class_of_line L u ls p (get_or ns i 0) ≡ false) → class_by_lines L u ls p ≡ false
all_idle L t far u p ls ns within hp idle late none =
    let at = (get_or ls p no_line).at in
    none_class L u p at 0 ls (λ q h.
    let first : 0 + q ≡ q = omega arith in
    ap (λ n. cond (eqb n p) false (class_back (get_or ls q no_line) u (half_bits_back L at (get_or ls q no_line)))) first
    ∙ listed_or_not q (length ns) ns (class_of_line L u ls p q ≡ false)
    (λ out. silent_class L u far p q ls within hp h (λ v after. idle.others q h out v (omega (arith, late, after))))
    (λ i m is. subst (λ z. class_of_line L u ls p z ≡ false) is (none i m)))

-- what a tap hears of another that is listed, as it is read from the line
pub listed_line : (L far t n u p q i at back : ℕ) (ls : List TapLine) (ns : List ℕ) (tap line : TapLine) → HearsListed p L far t n ls ns → i < length ns → q ≡ get_or ns i 0 → q ≢ p →
    tap ≡ get_or ls p tap → line ≡ get_or ls q line → at ≡ tap.at → back ≡ half_bits_back L at line →
    heard_of_line L u ls p q ≡ earlier (symbol_on line) u back
listed_line L far t n u p q i at back ls ns tap line listed h which differs tap_is line_is at_is back_is =
    let below = listed.loud.within i h in
    other_line L u p q at back ls tap line differs
    (get_or_read ls p tap listed.tap tap_is no_line) (get_or_read ls q line (omega (arith, which, below)) line_is no_line) at_is back_is

-- the same, as a class
pub listed_class : (L far t n u p q i at back : ℕ) (ls : List TapLine) (ns : List ℕ) (tap line : TapLine) → HearsListed p L far t n ls ns → i < length ns → q ≡ get_or ns i 0 → q ≢ p →
    tap ≡ get_or ls p tap → line ≡ get_or ls q line → at ≡ tap.at → back ≡ half_bits_back L at line →
    class_of_line L u ls p q ≡ class_back line u back
listed_class L far t n u p q i at back ls ns tap line listed h which differs tap_is line_is at_is back_is =
    let below = listed.loud.within i h in
    other_class L u p q at back ls tap line differs
    (get_or_read ls p tap listed.tap tap_is no_line) (get_or_read ls q line (omega (arith, which, below)) line_is no_line) at_is back_is

-- a listed tap that lets another hear a signal
pub by_listed : (L far t n u p q i : ℕ) (ls : List TapLine) (ns : List ℕ) → HearsListed p L far t n ls ns → i < length ns → q ≡ get_or ns i 0 →
    class_of_line L u ls p q ≡ true → class_by_lines L u ls p ≡ true
by_listed L far t n u p q i ls ns listed h which signal =
    let below = listed.loud.within i h in
    by_signal L u p q ls (omega (arith, which, below)) signal
