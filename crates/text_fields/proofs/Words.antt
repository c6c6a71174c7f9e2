-- The octets after a word, and how many octets of a name stand in front.
use Rattle.std.proofs.Common.{◌≡◌, ℕ, suc, ◌+◌, ◌<◌, ◌≤◌, Bool, true, false, eqb, List, [], ◌∷◌, length, take, drop, slice_index, refl, sym, ap, subst, ◌∙◌, arith, inl, inr, Some, None, Bor}
use Rattle.std.specs.List.{prefix_len}
use Rattle.std.specs.Prelude.{Option, IsAscii}
use Rattle.std.specs.Cmp.Lexicographic.{pointwise}
use Rattle.std.specs.Option.{MatchOption}
use Rattle.std.proofs.lemmas.Bool.Decides.{nat_tests}
use Rattle.std.proofs.lemmas.Str.Ascii.{IsAscii-cons, IsAscii-nil}
use Rattle.layout.specs.NameOctets.{is_name_octet}
use Rattle.std.proofs.lemmas.List.{drop_more, drop_all}
use Rattle.std.proofs.lemmas.Bool.{cases_Bool}
use Rattle.text_fields.specs.Reading.{IsReading, after_word}

-- where the octets begin with the word, those after it
pub after_same : (word octets : List ℕ) → pointwise eqb (take (length word) octets) word ≡ true → after_word word octets ≡ Some (drop (length word) octets)
after_same [] octets h = refl
after_same (w ∷ ws) [] h = cc h
after_same (w ∷ ws) (o ∷ os) h =
    elim (cases_Bool (eqb o w)) [
      | inl same ↦ rw same (after_same ws os (rw same at h))
      | inr other ↦ cc (rw other at h)
    ]

-- where they don't, nothing
pub after_other : (word octets : List ℕ) → pointwise eqb (take (length word) octets) word ≡ false → after_word word octets ≡ None
after_other [] octets h = cc h
after_other (w ∷ ws) [] h = refl
after_other (w ∷ ws) (o ∷ os) h =
    elim (cases_Bool (eqb o w)) [
      | inl same ↦ rw same (after_other ws os (rw same at h))
      | inr other ↦ rw other refl
    ]

-- one octet more passes
pub prefix_on : (p : ℕ → Bool) (xs : List ℕ) (i : ℕ) → i < length xs → p (slice_index xs i) ≡ true → i + prefix_len p (drop i xs) ≡ (i + 1) + prefix_len p (drop (i + 1) xs)
prefix_on p xs i lt h = rw (drop_more xs i 0 lt, h) (omega arith)

-- the next octet doesn't pass
pub prefix_stops : (p : ℕ → Bool) (xs : List ℕ) (i : ℕ) → i < length xs → p (slice_index xs i) ≡ false → prefix_len p (drop i xs) ≡ 0
prefix_stops p xs i lt h = rw (drop_more xs i 0 lt, h) refl

-- there is no more octet
pub prefix_ends : (p : ℕ → Bool) (xs : List ℕ) (i : ℕ) → length xs ≤ i → prefix_len p (drop i xs) ≡ 0
prefix_ends p xs i le = rw (drop_all i xs le) refl

-- what is read, where it is the same
pub same_read : {X Y : Type 0} (view : X → Y) (r : Option X) (a b : Option Y) → IsReading view r a → a ≡ b → IsReading view r b
same_read view r a b h e = subst (IsReading view r) e h

-- what `strip_prefix` answers
pub stripped : (word octets : List ℕ) (r : Option (Bor (List ℕ))) → MatchOption r (pointwise eqb (take (length word) octets) word ≡ false)
    (λ x. (pointwise eqb (take (length word) octets) word ≡ true) × (x.now ≡ drop (length word) octets) × (length x.now + length word ≡ length octets))
    → IsReading (λ rest. rest.now) r (after_word word octets)
stripped word octets None h = after_other word octets h
stripped word octets (Some x) h = after_same word octets h.0 ∙ ap Some (sym h.1)

-- the octets of a name are ASCII
name_octet_is_ascii : (c : ℕ) → is_name_octet c ≡ true → c < 123
unfolding is_name_octet
name_octet_is_ascii c h = grind (arith, nat_tests)

pub name_is_ascii : (octets : List ℕ) → IsAscii (take (prefix_len is_name_octet octets) octets)
name_is_ascii [] = IsAscii-nil
name_is_ascii (o ∷ os) =
    elim (cases_Bool (is_name_octet o)) [
      | inl passes ↦
          let e : 1 + prefix_len is_name_octet os ≡ suc (prefix_len is_name_octet os) = omega arith in
          rw (passes, e) (IsAscii-cons o _ (omega (arith, name_octet_is_ascii o passes)) (name_is_ascii os))
      | inr stops ↦ rw stops IsAscii-nil
    ]
