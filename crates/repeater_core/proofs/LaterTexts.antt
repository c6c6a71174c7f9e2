-- What a mode sends in half bits in which it changes by its counts alone, and the mode after them.
use Rattle.std.proofs.Common.{◌≡◌, ℕ, zero, suc, ◌+◌, ◌-◌, ◌*◌, ◌%◌, ◌<◌, ◌≤◌, true, false, cond, ltb, List, [], ◌∷◌, length, replicate, refl, sym, ap, ap₂, ◌∙◌, inl, inr, arith}
use Rattle.std.proofs.lemmas.Bool.{cases_eq, cases_lt}
use Rattle.std.proofs.lemmas.Bool.Decides.{nat_tests}
use Rattle.std.proofs.Math.Nat.{mod-eq_of_lt, mul-add-mod_self_left}
use Rattle.std.specs.Fn.{iterate}
use Rattle.mac_parameters.specs.Parameters.{fragment_extension, preamble_length}
use Rattle.manchester_line.specs.declared.Sym.{Sym}
use Rattle.manchester_line.specs.declared.Sym.TheVariants as sy
use Rattle.manchester_line.specs.Line.{preamble_at}
use Rattle.repeater_core.specs.declared.modes.Mode.TheVariants.{Idle, Repeat}
use Rattle.repeater_core.specs.Limits.{counts_end, jam_period}
use Rattle.repeater_core.specs.Modes.{next_count}
use Rattle.repeater_core.specs.Steady.{mode_on}
use Rattle.repeater_core.specs.Classes.{texts_after}

-- a count that goes round in periods of the jam
abbrev pub wrapped : ℕ → ℕ
wrapped a = cond (ltb a fragment_extension) a (fragment_extension + (a - fragment_extension) % jam_period)

pub wrapped_near : (a : ℕ) → a < fragment_extension → wrapped a ≡ a
wrapped_near a l =
    let yes : ltb a fragment_extension ≡ true = grind (arith, nat_tests) in
    ap (λ b. cond b a (fragment_extension + (a - fragment_extension) % jam_period)) yes

pub wrapped_far : (a : ℕ) → fragment_extension ≤ a → wrapped a ≡ fragment_extension + (a - fragment_extension) % jam_period
wrapped_far a l =
    let no : ltb a fragment_extension ≡ false = grind (arith, nat_tests) in
    ap (λ b. cond b a (fragment_extension + (a - fragment_extension) % jam_period)) no

wrapped_first : (i : ℕ) → i < counts_end → i ≡ wrapped i
wrapped_first i l = elim (cases_lt i fragment_extension) [
  | inl b ↦ sym (wrapped_near i b)
  | inr b ↦
      let small : (i - fragment_extension) % jam_period ≡ i - fragment_extension = mod-eq_of_lt (let s : i - fragment_extension < jam_period = omega arith in s) in
      let whole : i ≡ fragment_extension + (i - fragment_extension) = omega arith in
      whole ∙ sym (wrapped_far i b ∙ ap (λ k. fragment_extension + k) small)
]

wrapped_on : (n i : ℕ) → i < counts_end → wrapped (next_count i + n) ≡ wrapped (i + suc n)
wrapped_on n i l = elim (cases_eq (i + 1) counts_end) [
  | inl e ↦
      let back : next_count i ≡ fragment_extension = grind (arith, nat_tests) in
      let near : fragment_extension + n - fragment_extension ≡ n = omega arith in
      let round : i + suc n - fragment_extension ≡ jam_period * 1 + n = omega arith in
      ap (λ k. wrapped (k + n)) back ∙ wrapped_far (fragment_extension + n) (omega arith) ∙ ap (λ k. fragment_extension + k % jam_period) near
      ∙ sym (wrapped_far (i + suc n) (omega arith) ∙ ap (λ k. fragment_extension + k % jam_period) round ∙ ap (λ k. fragment_extension + k) (mul-add-mod_self_left jam_period 1 n))
  | inr ne ↦
      let on : next_count i ≡ i + 1 = grind (arith, nat_tests) in
      let same : i + 1 + n ≡ i + suc n = omega arith in
      ap (λ k. wrapped (k + n)) on ∙ ap wrapped same
]

next_below : (i : ℕ) → i < counts_end → next_count i < counts_end
next_below i l = grind (arith, nat_tests)

pub count_later : (n i : ℕ) → i < counts_end → iterate next_count n i ≡ wrapped (i + n)
count_later zero i l = let none : i ≡ i + 0 = omega arith in wrapped_first i l ∙ ap wrapped none
count_later (suc n) i l = count_later n (next_count i) (next_below i l) ∙ wrapped_on n i l

pub mode_later : (n p i : ℕ) → iterate mode_on n (Repeat p i) ≡ Repeat p (iterate next_count n i)
mode_later zero p i = refl
mode_later (suc n) p i = mode_later n p (next_count i)

past_next : (i : ℕ) → preamble_length ≤ i → preamble_length ≤ next_count i
past_next i l = grind (arith, nat_tests)

-- past the preamble and start frame delimiter what is sent is what is heard
pub texts_heard : (heard : List Sym) (p i : ℕ) → preamble_length ≤ i → texts_after (Repeat p i) heard ≡ heard
texts_heard [] p i l = refl
texts_heard (s ∷ heard) p i l =
    let far = past_next i l in
    let no : ltb (next_count i) preamble_length ≡ false = grind (arith, nat_tests) in
    ap₂ ◌∷◌ (ap (λ b. cond b (preamble_at (next_count i)) s) no) (texts_heard heard p (next_count i) far)

pub idle_later : (n : ℕ) → iterate mode_on n Idle ≡ Idle
idle_later zero = refl
idle_later (suc n) = idle_later n

pub texts_idle : (heard : List Sym) → texts_after Idle heard ≡ replicate (length heard) sy.Idle
texts_idle [] = refl
texts_idle (s ∷ heard) = ap (λ xs. sy.Idle ∷ xs) (texts_idle heard)
