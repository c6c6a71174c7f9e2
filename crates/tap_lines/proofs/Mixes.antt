-- Symbols that are mixed into others, one after another.
use Rattle.std.proofs.Common.{◌≡◌, ℕ, ◌+◌, ◌<◌, ◌≤◌, inl, inr, List, set, length, get_or, get_or-set_same, length-set, subst, ap, ◌∙◌, arith}
use Rattle.std.proofs.lemmas.Bool.{cases_lt}
use Rattle.std.proofs.lemmas.List.{get_or-set_other, get_or_default}
use Rattle.manchester_line.specs.declared.Sym.{Sym}
use Rattle.manchester_line.specs.Line.{mix_of}

-- into the first n of these symbols those of f are mixed, and the others are as they were
pub record AreMixed (f : ℕ → Sym) (old new : List Sym) (n : ℕ) : Type 0 where
  pub len : length new ≡ length old
  pub done : (i : ℕ) (d : Sym) → i < n → get_or new i d ≡ mix_of (get_or old i d) (f i)
  pub left : (i : ℕ) (d : Sym) → n ≤ i → get_or new i d ≡ get_or old i d

pub mixed_more : (f : ℕ → Sym) (old new : List Sym) (j : ℕ) (s d : Sym) → j < length new → s ≡ mix_of (get_or new j d) (f j) → AreMixed f old new j → AreMixed f old (set new j s) (j + 1)
mixed_more f old new j s d h is mixed = record {
  len = length-set new j s ∙ mixed.len;
  done = λ i e l. elim (cases_lt i j) [
    | inl before ↦ get_or-set_other new j i s e (λ z. omega (arith, z, before)) ∙ mixed.done i e before
    | inr now ↦
        let place : j ≡ i = omega (arith, l, now) in
        subst (λ k. get_or (set new j s) k e ≡ mix_of (get_or old k e) (f k)) place
        (get_or-set_same new j s e h ∙ is ∙ ap (λ x. mix_of x (f j)) (get_or_default new j d e h ∙ mixed.left j e (omega arith)))
  ];
  left = λ i e l. get_or-set_other new j i s e (λ z. omega (arith, z, l)) ∙ mixed.left i e (omega (arith, l));
}
