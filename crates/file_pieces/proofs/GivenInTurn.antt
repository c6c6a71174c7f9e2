-- A file that is given piece by piece.
use Rattle.std.proofs.Common.{◌≡◌, ℕ, ◌+◌, List, ◌++◌, take, Option, None, Some, Ok, sym, ap, ◌∙◌, arith}
use Rattle.std.specs.Prelude.{IfSome}
use Rattle.std.proofs.Math.Seq.{take-add}
use Rattle.std.proofs.lemmas.Bool.{false≢true}
use Rattle.outside.specs.Files.{Files, file_of, IsRead, IsReadOf}
use Rattle.file_pieces.specs.GivenPieces.{IsGiven, IsGivenOf}

module _ {T : Type 0} (given : T → List ℕ → Type 0) where
  more_of : (E : Type 0) (whole : Option (List ℕ)) (from n : ℕ) (room : List ℕ) (old new : T) → IsReadOf {E = E} whole from (Ok n) room
      → ((octets : List ℕ) → given old octets → given new (octets ++ take n room)) → IsGivenOf given whole from old → IsGivenOf given whole (from + n) new
  more_of E None from n room old new read on is = absurd (false≢true read)
  more_of E (Some octets) from n room old new read on is =
      let more : take (from + n) octets ≡ take from octets ++ take n room = take-add from n octets ∙ ap (λ xs. take from octets ++ xs) (sym read.0) in
      (omega (arith, is.0, read.1), rw more (on (take from octets) is.1))

  more_some : (E : Type 0) (name : List ℕ) (files : Files) (from n : ℕ) (room : List ℕ) (old new : T) → IsRead {E = E} name from files (Ok n) room
      → ((octets : List ℕ) → given old octets → given new (octets ++ take n room)) → IsGiven given name (Some files) from old → IsGiven given name (Some files) (from + n) new
  more_some E name files from n room old new read on is = more_of E (file_of name files) from n room old new read on is

  -- one more piece
  pub given-more : (E : Type 0) (name : List ℕ) (held : Option Files) (from n : ℕ) (room : List ℕ) (old new : T) → IfSome held (λ files. IsRead {E = E} name from files (Ok n) room)
      → ((octets : List ℕ) → given old octets → given new (octets ++ take n room)) → IsGiven given name held from old → IsGiven given name held (from + n) new
  given-more E name None from n room old new read on is = tt
  given-more E name (Some files) from n room old new read on is = more_some E name files from n room old new read on is
