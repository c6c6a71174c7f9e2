-- A file that is written to the store piece by piece.
use Rattle.std.proofs.Common.{◌≡◌, ℕ, ◌+◌, true, List, [], ◌∷◌, take, drop, Option, None, Some, option_map, Ok, refl, ap, ◌∙◌, inl, inr}
use Rattle.std.specs.Prelude.{bytes_eq}
use Rattle.std.proofs.lemmas.Bool.{cases_Bool}
use Rattle.std.proofs.lemmas.Slice.Eq.{bytes_eq-Decides}
use Rattle.std.proofs.Math.Seq.{take-add}
use Rattle.outside.specs.Files.{Files, file_of, with_file, appended, IsAbsent}
use Rattle.run_endings.specs.Writing.{put_file}

pub same_name : (name : List ℕ) → bytes_eq name name ≡ true
same_name name = (bytes_eq-Decides name name).1 refl

-- a file that was set is there
pub file_of-with_file : (name octets : List ℕ) (files : Files) → file_of name (with_file name octets files) ≡ Some octets
file_of-with_file name octets [] = rw (same_name name)
file_of-with_file name octets (f ∷ fs) =
    elim (cases_Bool (bytes_eq f.name name)) [
      | inl same ↦ rw (same, same)
      | inr other ↦ rw (other, other) (file_of-with_file name octets fs)
    ]

-- the last one that was set counts
pub with_file-twice : (name first last : List ℕ) (files : Files) → with_file name last (with_file name first files) ≡ with_file name last files
with_file-twice name first last [] = rw (same_name name)
with_file-twice name first last (f ∷ fs) =
    elim (cases_Bool (bytes_eq f.name name)) [
      | inl same ↦ rw (same, same)
      | inr other ↦ rw (other, other) (ap (λ fs. f ∷ fs) (with_file-twice name first last fs))
    ]

-- what was put is there
pub put-present : (name text : List ℕ) (held : Option Files) → IsAbsent name (put_file name text held) → ⊥
put-present name text None absent = absent
put-present name text (Some files) absent = let there : Some text ≡ None = rw (← file_of-with_file name text files) absent in cc

piece-next : (E : Type 0) (name text : List ℕ) (k n : ℕ) (held : Option Files) → option_map (appended {E = E} name (drop k text) (Ok n)) (put_file name (take k text) held) ≡ put_file name (take (k + n) text) held
piece-next E name text k n None = refl
piece-next E name text k n (Some files) = ap Some (rw (file_of-with_file, with_file-twice, ← take-add k n text))

-- one more piece of a text
pub put-next : (E : Type 0) (name text : List ℕ) (k n : ℕ) (held now next : Option Files) → now ≡ put_file name (take k text) held → next ≡ option_map (appended {E = E} name (drop k text) (Ok n)) now → next ≡ put_file name (take (k + n) text) held
put-next E name text k n held now next was is = is ∙ rw was (piece-next E name text k n held)
