-- What of a file was given in pieces is its front.
use Rattle.std.proofs.Common.{◌≡◌, ℕ, ◌+◌, List, take, length, Option, None, Some, sym, ap, ◌∙◌, inl, inr, arith}
use Rattle.std.specs.Prelude.{min, nat_le, option_map}
use Rattle.std.proofs.lemmas.Bool.{cases_Bool, leb-true, leb-false}
use Rattle.std.proofs.lemmas.List.{take_all}
use Rattle.file_pieces.specs.GivenPieces.{IsGivenFront, IsGivenFrontOf}
use Rattle.outside.specs.Files.{Files, file_of}
use Rattle.run_endings.specs.Reading.{front_of, IsFront}

take_min : (limit seen : ℕ) (whole : List ℕ) → seen ≡ min (length whole) (limit + 1) → take (limit + 1) whole ≡ take seen whole
take_min limit seen whole is =
    elim (cases_Bool (nat_le (length whole) (limit + 1))) [
      | inl few ↦ take_all (limit + 1) whole (leb-true (length whole) (limit + 1) few) ∙ sym (take_all seen whole (omega (arith, is, leb-true (length whole) (limit + 1) few)))
      | inr more ↦ (let full : limit + 1 ≡ seen = omega (arith, is, leb-false (length whole) (limit + 1) more) in ap (λ k. take k whole) full)
    ]

front_given : (limit : ℕ) (whole : Option (List ℕ)) (seen : ℕ) (octets : List ℕ) → IsGivenFrontOf (λ (list : List ℕ) given. list ≡ given) limit whole seen octets → option_map (take (limit + 1)) whole ≡ Some octets
front_given limit None seen octets given = absurd given
front_given limit (Some whole) seen octets given = ap Some (take_min limit seen whole given.0 ∙ sym given.1)

-- a list that was given a file holds its front
pub is_front : (limit : ℕ) (name : List ℕ) (held : Option Files) (seen : ℕ) (octets : List ℕ) → IsGivenFront (λ (list : List ℕ) given. list ≡ given) limit name held seen octets → IsFront limit name held octets
unfolding front_of
is_front limit name None seen octets given = tt
is_front limit name (Some files) seen octets given = front_given limit (file_of name files) seen octets given
