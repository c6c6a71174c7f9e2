-- What the readers of words, numbers and names found stands in front, and what stands in front is found.
use Rattle.std.proofs.Common.{◌≡◌, ℕ, suc, ◌+◌, ◌^◌, ◌<◌, ◌≤◌, Bool, true, false, ◌&&◌, cond, eqb, List, [], ◌∷◌, ◌++◌, length, take, drop, refl, sym, ap, subst, ◌∙◌, arith, inl, inr, Some, None, All}
use Rattle.std.specs.List.{prefix_len}
use Rattle.std.specs.Fmt.{decimal}
use Rattle.std.specs.Prelude.{Option, nat_le}
use Rattle.std.proofs.lemmas.Bool.{cases_Bool, eqb-true, and_parts, le-leb, leb-true}
use Rattle.std.proofs.lemmas.Bool.Decides.{nat_tests}
use Rattle.std.proofs.lemmas.List.{take-append-drop}
use Rattle.std.proofs.Math.Seq.{take-append_seam, drop-append_seam}
use Rattle.std.proofs.lemmas.List.Elements.{All-nil, All-cons, All-head, All-tail}
use Rattle.std.proofs.lemmas.List.Folds.{length-prefix_len}
use Rattle.std.proofs.lemmas.Option.{same_Some, cond_some}
use Rattle.layout.specs.Limits.{longest_name}
use Rattle.layout.specs.NameOctets.{is_name_octet}
use Rattle.layout.specs.Sound.{IsName}
use Rattle.text_fields.specs.Reading.{◌>>=◌, after_word, field_at, half_bit_at, name_at, name_of_length, decimal_at}
use Rattle.text_fields.proofs.Numbers.{begins_with_digit, number_again, number_text}

-- both steps found something
pub bind_some : {A B : Type 0} (o : Option A) (f : A → Option B) (y : B) → (o >>= f) ≡ Some y → (x : A) × (o ≡ Some x) × (f x ≡ Some y)
bind_some None f y h = cc h
bind_some (Some x) f y h = (x, refl, h)

-- the first step found this
pub bind_is : {A B : Type 0} (o : Option A) (f : A → Option B) (x : A) (r : Option B) → o ≡ Some x → f x ≡ r → (o >>= f) ≡ r
bind_is o f x r e h = rw e h

pub word_text : (word octets rest : List ℕ) → after_word word octets ≡ Some rest → octets ≡ word ++ rest
word_text [] octets rest h = same_Some _ _ h
word_text (w ∷ ws) [] rest h = cc h
word_text (w ∷ ws) (o ∷ os) rest h =
    elim (cases_Bool (eqb o w)) [
      | inl same ↦
          let tail = word_text ws os rest (rw same at h) in
          rw (eqb-true o w same, ← tail) refl
      | inr other ↦ cc (rw other at h)
    ]

pub word_again : (word rest : List ℕ) → after_word word (word ++ rest) ≡ Some rest
word_again [] rest = refl
word_again (w ∷ ws) rest =
    let same : eqb w w ≡ true = grind (arith, nat_tests) in
    rw same (word_again ws rest)

pub field_text : (word octets : List ℕ) (n : ℕ) (rest : List ℕ) → field_at word octets ≡ Some (n, rest) → (octets ≡ word ++ (decimal n ++ rest)) × (n < 2 ^ 32)
unfolding field_at
field_text word octets n rest h =
    let b = bind_some (after_word word octets) decimal_at (n, rest) h in
    let number = number_text b.0 n rest b.2 in
    (word_text word octets b.0 b.1 ∙ ap (λ l. word ++ l) number.0, number.1)

pub field_again : (word : List ℕ) (n : ℕ) (rest : List ℕ) → n < 2 ^ 32 → begins_with_digit rest ≡ false → field_at word (word ++ (decimal n ++ rest)) ≡ Some (n, rest)
unfolding field_at
field_again word n rest fits stops = bind_is _ decimal_at (decimal n ++ rest) _ (word_again word (decimal n ++ rest)) (number_again n rest fits stops)

pub half_bit_text : (t : ℕ) (word octets : List ℕ) (n : ℕ) (rest : List ℕ) → half_bit_at t word octets ≡ Some (n, rest) → (octets ≡ word ++ (decimal n ++ rest)) × (n ≤ t)
unfolding half_bit_at
half_bit_text t word octets n rest h =
    let b = bind_some (field_at word octets) (λ (x : ℕ × List ℕ). cond (nat_le x.0 t) (Some x) None) (n, rest) h in
    let test = cond_some (nat_le b.0.0 t) b.0 (n, rest) b.2 in
    let field = field_text word octets n rest (b.1 ∙ ap Some test.1) in
    (field.0, leb-true n t (ap (λ (x : ℕ × List ℕ). nat_le x.0 t) (sym test.1) ∙ test.0))

pub half_bit_again : (t : ℕ) (word : List ℕ) (n : ℕ) (rest : List ℕ) → n ≤ t → n < 2 ^ 32 → begins_with_digit rest ≡ false → half_bit_at t word (word ++ (decimal n ++ rest)) ≡ Some (n, rest)
unfolding half_bit_at
half_bit_again t word n rest le fits stops = bind_is _ (λ (x : ℕ × List ℕ). cond (nat_le x.0 t) (Some x) None) (n, rest) _ (field_again word n rest fits stops) (rw (le-leb n t le) refl)

-- the octets in front that pass
front_passes : (p : ℕ → Bool) (xs : List ℕ) → All (λ c. p c ≡ true) (take (prefix_len p xs) xs)
front_passes p [] = All-nil (λ c. p c ≡ true)
front_passes p (x ∷ xs) =
    elim (cases_Bool (p x)) [
      | inl passes ↦
          let e : 1 + prefix_len p xs ≡ suc (prefix_len p xs) = omega arith in
          rw (passes, e) (All-cons (λ c. p c ≡ true) x _ passes (front_passes p xs))
      | inr stops ↦ rw stops (All-nil (λ c. p c ≡ true))
    ]

-- octets that pass, before one that doesn't
front_again : (p : ℕ → Bool) (xs : List ℕ) (y : ℕ) (ys : List ℕ) → All (λ c. p c ≡ true) xs → p y ≡ false → prefix_len p (xs ++ y ∷ ys) ≡ length xs
front_again p [] y ys all stops = rw stops refl
front_again p (x ∷ xs) y ys all stops =
    rw (All-head (λ c. p c ≡ true) x xs all, front_again p xs y ys (All-tail (λ c. p c ≡ true) x xs all) stops) (omega arith)

pub name_text : (octets name rest : List ℕ) → name_at octets ≡ Some (name, rest) → (octets ≡ name ++ rest) × IsName name
unfolding name_at
name_text octets name rest h =
    let len = prefix_len is_name_octet octets in
    let test = cond_some (nat_le 1 len && nat_le len longest_name) (take len octets, drop len octets) (name, rest) h in
    let bounds = and_parts (nat_le 1 len) (nat_le len longest_name) test.0 in
    let front : take len octets ≡ name = ap (λ (x : List ℕ × List ℕ). x.0) test.1 in
    let back : drop len octets ≡ rest = ap (λ (x : List ℕ × List ℕ). x.1) test.1 in
    let size : length name ≡ len = ap length (sym front) ∙ length-prefix_len is_name_octet octets in (
      sym (take-append-drop len octets) ∙ rw (front, back) refl,
      record {
        least = rw size (leb-true 1 len bounds.0);
        most = rw size (leb-true len longest_name bounds.1);
        octets = subst (All (λ c. is_name_octet c ≡ true)) front (front_passes is_name_octet octets);
      },
    )

pub name_again : (name rest : List ℕ) → IsName name → name_at (name ++ 32 ∷ rest) ≡ Some (name, 32 ∷ rest)
unfolding name_at is_name_octet
name_again name rest h =
    let len = front_again is_name_octet name 32 rest h.octets refl in
    ap (λ n. name_of_length n (name ++ 32 ∷ rest)) len
    ∙ rw (le-leb 1 (length name) h.least, le-leb (length name) longest_name h.most, take-append_seam name (32 ∷ rest), drop-append_seam name (32 ∷ rest)) refl
