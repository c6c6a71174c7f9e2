-- The number that a word is in decimal.
use Rattle.std.proofs.Common.{◌≡◌, ◌≢◌, ℕ, zero, suc, ◌+◌, ◌-◌, ◌<◌, ◌≤◌, ◌^◌, Bool, true, false, cond, Option, None, Some, List, refl, sym, ap, ◌∙◌, inl, inr, arith}
use Rattle.std.specs.Prelude.{bytes_eq, decimal, find}
use Rattle.std.specs.List.{range_with_len}
use Rattle.std.proofs.lemmas.Bool.{cases_Bool}
use Rattle.std.proofs.lemmas.Fmt.{decimal_injective}
use Rattle.std.proofs.lemmas.Slice.Eq.{bytes_eq-Decides}
use Rattle.program_words.specs.Requests.{number_between}

taken : (b : Bool) (x : ℕ) (rest : Option ℕ) → b ≡ true → cond b (Some x) rest ≡ Some x
taken true x rest e = refl
taken false x rest e = absurd (cc)

passed : (b : Bool) (x : ℕ) (rest : Option ℕ) → b ≡ false → cond b (Some x) rest ≡ rest
passed true x rest e = absurd (cc)
passed false x rest e = refl

both : (b : Bool) → b ≡ true → b ≡ false → ⊥
both b equal differ = cc

-- of the numbers from a on, so many, the one that a word is in decimal is found
found : (word : List ℕ) (n a k : ℕ) → a ≤ k → k < a + n → a + n ≤ 2 ^ 32 → word ≡ decimal k → find (λ m. bytes_eq word (decimal m)) (range_with_len a n) ≡ Some k
found word zero a k low high small is = absurd (omega arith)
found word (suc n) a k low high small is =
    elim (cases_Bool (bytes_eq word (decimal a))) [
      | inl equal ↦ (
          let same : a ≡ k = decimal_injective a k (omega arith) (omega arith) (sym ((bytes_eq-Decides word (decimal a)).0 equal) ∙ is) in
          taken (bytes_eq word (decimal a)) a (find (λ m. bytes_eq word (decimal m)) (range_with_len (a + 1) n)) equal ∙ ap Some same
          )
      | inr differ ↦ (
          let other : a ≢ k = λ same. both (bytes_eq word (decimal a)) ((bytes_eq-Decides word (decimal a)).1 (is ∙ ap decimal (sym same))) differ in
          passed (bytes_eq word (decimal a)) a (find (λ m. bytes_eq word (decimal m)) (range_with_len (a + 1) n)) differ ∙ found word n (a + 1) k (omega (arith, other)) (omega arith) (omega arith) is
          )
    ]

-- where it is none of them nothing is found
unfound : (word : List ℕ) (n a : ℕ) → ((k : ℕ) → a ≤ k → k < a + n → word ≢ decimal k) → find (λ m. bytes_eq word (decimal m)) (range_with_len a n) ≡ None
unfound word zero a never = refl
unfound word (suc n) a never =
    elim (cases_Bool (bytes_eq word (decimal a))) [
      | inl equal ↦ absurd (never a (omega arith) (omega arith) ((bytes_eq-Decides word (decimal a)).0 equal))
      | inr differ ↦ passed (bytes_eq word (decimal a)) a (find (λ m. bytes_eq word (decimal m)) (range_with_len (a + 1) n)) differ ∙ unfound word n (a + 1) (λ k low high. never k (omega arith) (omega arith))
    ]

-- a word that is a number in range
pub number_found : (least most : ℕ) (word : List ℕ) (k : ℕ) → most < 2 ^ 31 → least ≤ k → k ≤ most → word ≡ decimal k → number_between least most word ≡ Some k
unfolding number_between
number_found least most word k small low high is = found word (most + 1 - least) least k low (omega arith) (omega arith) is

-- a word that is none
pub number_unfound : (least most : ℕ) (word : List ℕ) → ((k : ℕ) → least ≤ k → k ≤ most → word ≢ decimal k) → number_between least most word ≡ None
unfolding number_between
number_unfound least most word never = unfound word (most + 1 - least) least (λ k low high. never k low (omega arith))
