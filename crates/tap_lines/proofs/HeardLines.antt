-- What a tap hears, line after line.
use Rattle.std.proofs.Common.{◌≡◌, ◌≢◌, ℕ, zero, suc, ◌+◌, ◌-◌, ◌<◌, ◌≤◌, Bool, true, false, cond, eqb, inl, inr, List, [], ◌∷◌, drop, length, get_or, refl, sym, ap, ap₂, ◌∙◌, arith}
use Rattle.std.proofs.lemmas.List.{drop_all, same_lists, get_or_default}
use Rattle.std.proofs.lemmas.Bool.{cases_lt, ne_eqb}
use Rattle.std.proofs.lemmas.Bool.Decides.{nat_tests}
use Rattle.manchester_line.specs.declared.Sym.{Sym}
use Rattle.manchester_line.specs.declared.Sym.TheVariants.{Idle, Hi, Lo, Clash}
use Rattle.manchester_line.specs.Line.{mix_of}
use Rattle.cable_segment.proofs.Skipping.{mix_assoc}
use Rattle.network.specs.Times.{earlier}
use Rattle.net_parts.specs.Machines.{span}
use Rattle.net_parts.proofs.LateRows.{if_true, if_false}
use Rattle.net_parts.proofs.RepeaterSteps.{length-span, get_or-span}
use Rattle.tap_lines.specs.TapLines.{TapLine, no_line, symbol_on, half_bits_back, heard_of_line, heard_of_lines, heard_by_lines, IsOnlySource, IsReachOf}
use Rattle.tap_lines.proofs.LineClasses.{idle_on}
use Rattle.tap_lines.proofs.Spans.{rest_of}

pub mix_idle : (s : Sym) → mix_of s Idle ≡ s
mix_idle Idle = refl
mix_idle Hi = refl
mix_idle Lo = refl
mix_idle Clash = refl

idle_either : (b : Bool) → cond b Idle Idle ≡ Idle
idle_either true = refl
idle_either false = refl

-- one line more
pub heard_next : (L t p q : ℕ) (ls : List TapLine) (s s' all : Sym) → q < length ls → s' ≡ mix_of s (heard_of_line L t ls p q) →
    mix_of s (heard_of_lines L t p (get_or ls p no_line).at q (drop q ls)) ≡ all →
    mix_of s' (heard_of_lines L t p (get_or ls p no_line).at (q + 1) (drop (q + 1) ls)) ≡ all
heard_next L t p q ls s s' all h is before =
    let at = (get_or ls p no_line).at in
    let rest = heard_of_lines L t p at (q + 1) (drop (q + 1) ls) in
    ap (λ x. mix_of x rest) is
    ∙ mix_assoc s (heard_of_line L t ls p q) rest
    ∙ ap (λ xs. mix_of s (heard_of_lines L t p at q xs)) (rest_of ls q no_line h)
    ∙ before

-- a line on which nothing stands any more
pub silent_line : (L t far p q : ℕ) (ls : List TapLine) → IsReachOf far L ls → p < length ls → q < length ls →
    ((v : ℕ) → t - far ≤ v → symbol_on (get_or ls q no_line) v ≡ Idle) → heard_of_line L t ls p q ≡ Idle
silent_line L t far p q ls within hp hq silent =
    let back = half_bits_back L (get_or ls p no_line).at (get_or ls q no_line) in
    let near = within p q hp hq in
    let there : earlier (symbol_on (get_or ls q no_line)) t back ≡ Idle = elim (cases_lt t back) [
      | inl early ↦ if_false {m = back} {n = t} _ _ early
      | inr late ↦ if_true {m = back} {n = t} _ _ late ∙ silent (t - back) (omega (arith, near, late))
    ] in
    ap (λ x. cond (eqb q p) Idle x) there ∙ idle_either (eqb q p)

-- all lines over several half bits
pub heard_piece : (L t n p q : ℕ) (ls : List TapLine) (piece : List Sym) → length piece ≡ n → length ls ≤ q →
    ((j : ℕ) → j < n → mix_of (get_or piece j Idle) (heard_of_lines L (t + j) p (get_or ls p no_line).at q (drop q ls)) ≡ heard_by_lines L (t + j) ls p) →
    piece ≡ span (λ u. heard_by_lines L u ls p) t n
heard_piece L t n p q ls piece len end all =
    let f = λ (u : ℕ). heard_by_lines L u ls p in
    same_lists piece (span f t n) (len ∙ sym (length-span f t n)) (λ j d h.
    let in_it : j < n = omega (arith, h, len) in
    let at = (get_or ls p no_line).at in
    sym (get_or_default piece j Idle d h)
    ∙ sym (mix_idle (get_or piece j Idle))
    ∙ ap (λ xs. mix_of (get_or piece j Idle) (heard_of_lines L (t + j) p at q xs)) (sym (drop_all q ls end))
    ∙ all j in_it
    ∙ sym (get_or-span f t n j d in_it))

-- lines of which a tap hears nothing
pub none_heard : (L t p at k : ℕ) (ls : List TapLine) →
    ((i : ℕ) → i < length ls → cond (eqb (k + i) p) Idle (earlier (symbol_on (get_or ls i no_line)) t (half_bits_back L at (get_or ls i no_line))) ≡ Idle) →
    heard_of_lines L t p at k ls ≡ Idle
none_heard L t p at k [] h = refl
none_heard L t p at k (l ∷ ls) h =
    let first : k ≡ k + 0 = omega arith in
    ap₂ mix_of
    (ap (λ n. cond (eqb n p) Idle (earlier (symbol_on l) t (half_bits_back L at l))) first ∙ h 0 (omega arith))
    (none_heard L t p at (k + 1) ls (λ i m.
    let next : k + 1 + i ≡ k + suc i = omega arith in
    ap (λ n. cond (eqb n p) Idle (earlier (symbol_on (get_or ls i no_line)) t (half_bits_back L at (get_or ls i no_line)))) next ∙ h (suc i) (omega (arith, m))))

pub idle_mix : (s : Sym) → mix_of Idle s ≡ s
idle_mix Idle = refl
idle_mix Hi = refl
idle_mix Lo = refl
idle_mix Clash = refl

-- lines of which a tap hears one
one_heard : (L t p at k q : ℕ) (ls : List TapLine) → q < length ls →
    ((i : ℕ) → i < length ls → i ≢ q → cond (eqb (k + i) p) Idle (earlier (symbol_on (get_or ls i no_line)) t (half_bits_back L at (get_or ls i no_line))) ≡ Idle) →
    heard_of_lines L t p at k ls ≡ cond (eqb (k + q) p) Idle (earlier (symbol_on (get_or ls q no_line)) t (half_bits_back L at (get_or ls q no_line)))
one_heard L t p at k q [] h others = absurd (omega (arith, h))
one_heard L t p at k zero (l ∷ ls) h others =
    let sound = cond (eqb k p) Idle (earlier (symbol_on l) t (half_bits_back L at l)) in
    let first : k ≡ k + 0 = omega arith in
    ap (mix_of sound) (none_heard L t p at (k + 1) ls (λ i m.
    let next : k + 1 + i ≡ k + suc i = omega arith in
    ap (λ n. cond (eqb n p) Idle (earlier (symbol_on (get_or ls i no_line)) t (half_bits_back L at (get_or ls i no_line)))) next ∙ others (suc i) (omega (arith, m)) (λ e. omega (arith, e))))
    ∙ mix_idle sound
    ∙ ap (λ n. cond (eqb n p) Idle (earlier (symbol_on l) t (half_bits_back L at l))) first
one_heard L t p at k (suc q) (l ∷ ls) h others =
    let first : k ≡ k + 0 = omega arith in
    let there : k + 1 + q ≡ k + suc q = omega arith in
    let rest = heard_of_lines L t p at (k + 1) ls in
    ap (λ s. mix_of s rest) (ap (λ n. cond (eqb n p) Idle (earlier (symbol_on l) t (half_bits_back L at l))) first ∙ others 0 (omega arith) (λ e. omega (arith, e)))
    ∙ idle_mix rest
    ∙ one_heard L t p at (k + 1) q ls (omega (arith, h)) (λ i m other.
    let next : k + 1 + i ≡ k + suc i = omega arith in
    ap (λ n. cond (eqb n p) Idle (earlier (symbol_on (get_or ls i no_line)) t (half_bits_back L at (get_or ls i no_line)))) next ∙ others (suc i) (omega (arith, m)) (λ e. other (omega (arith, e))))
    ∙ ap (λ n. cond (eqb n p) Idle (earlier (symbol_on (get_or ls q no_line)) t (half_bits_back L at (get_or ls q no_line)))) there

-- a tap doesn't hear itself
pub own_line : (L u p q : ℕ) (ls : List TapLine) → q ≡ p → heard_of_line L u ls p q ≡ Idle
own_line L u p q ls own =
    let same : eqb q p ≡ true = grind (arith, nat_tests, own) in
    ap (λ b. cond b Idle (earlier (symbol_on (get_or ls q no_line)) u (half_bits_back L (get_or ls p no_line).at (get_or ls q no_line)))) same

-- what a tap hears of another's line, as it is read from the line
pub other_line : (L u p q at back : ℕ) (ls : List TapLine) (tap line : TapLine) → q ≢ p →
    tap ≡ get_or ls p no_line → line ≡ get_or ls q no_line → at ≡ tap.at → back ≡ half_bits_back L at line →
    heard_of_line L u ls p q ≡ earlier (symbol_on line) u back
other_line L u p q at back ls tap line differs tap_is line_is at_is back_is =
    let there : at ≡ (get_or ls p no_line).at = at_is ∙ ap (λ (l : TapLine). l.at) tap_is in
    let way : back ≡ half_bits_back L (get_or ls p no_line).at (get_or ls q no_line) = back_is ∙ ap₂ (λ x l. half_bits_back L x l) there line_is in
    ap (λ b. cond b Idle (earlier (symbol_on (get_or ls q no_line)) u (half_bits_back L (get_or ls p no_line).at (get_or ls q no_line)))) (ne_eqb q p differs)
    ∙ sym (ap₂ (λ l b. earlier (symbol_on l) u b) line_is way)

-- a tap hears the only line on which anything stands
pub only_heard : (L t far u p q : ℕ) (ls : List TapLine) → IsReachOf far L ls → p < length ls → IsOnlySource (t - far) ls q → t ≤ u →
    heard_by_lines L u ls p ≡ heard_of_line L u ls p q
only_heard L t far u p q ls within hp only late =
    let at = (get_or ls p no_line).at in
    let none : 0 + q ≡ q = omega arith in
    one_heard L u p at 0 q ls only.within (λ i m other.
    let first : 0 + i ≡ i = omega arith in
    ap (λ n. cond (eqb n p) Idle (earlier (symbol_on (get_or ls i no_line)) u (half_bits_back L at (get_or ls i no_line)))) first
    ∙ silent_line L u far p i ls within hp m (λ v after. idle_on (t - far) v (get_or ls i no_line) (λ w behind. only.others i w m other behind) (omega (arith, late, after))))
    ∙ ap (λ n. cond (eqb n p) Idle (earlier (symbol_on (get_or ls q no_line)) u (half_bits_back L at (get_or ls q no_line)))) none

pub own_heard : (L t far u p q : ℕ) (ls : List TapLine) → IsReachOf far L ls → p < length ls → IsOnlySource (t - far) ls q → t ≤ u → q ≡ p →
    heard_by_lines L u ls p ≡ Idle
own_heard L t far u p q ls within hp only late own = only_heard L t far u p q ls within hp only late ∙ own_line L u p q ls own

-- the same, where it isn't the tap's own and is read from the line
pub heard_back : (L t far u p q at back : ℕ) (ls : List TapLine) (tap line : TapLine) → IsReachOf far L ls → p < length ls → IsOnlySource (t - far) ls q → t ≤ u → q ≢ p →
    tap ≡ get_or ls p no_line → line ≡ get_or ls q no_line → at ≡ tap.at → back ≡ half_bits_back L at line →
    heard_by_lines L u ls p ≡ earlier (symbol_on line) u back
heard_back L t far u p q at back ls tap line within hp only late differs tap_is line_is at_is back_is =
    only_heard L t far u p q ls within hp only late ∙ other_line L u p q at back ls tap line differs tap_is line_is at_is back_is
