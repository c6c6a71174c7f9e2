-- The first file of a name, found from the front.
use Rattle.std.proofs.Common.{◌≡◌, ℕ, ◌<◌, true, List, ◌++◌, Some, length, get_or, set, take, drop, add-one, ◌∙◌}
use Rattle.std.specs.Prelude.{bytes_eq}
use Rattle.std.proofs.lemmas.List.{drop_more, get_or_default, set_split}
use Rattle.outside.specs.declared.file.File.{File}
use Rattle.outside.specs.Files.{Files, file_of, with_file, IsPlace}

module _ (name : List ℕ) (files : Files) (i : ℕ) (d : File) (within : i < length files) (same : bytes_eq (get_or files i d).name name ≡ true) where
  file_here : file_of name files ≡ file_of name (drop i files) → (e : File) → file_of name files ≡ Some (get_or files i e).octets
  file_here rest e = rest ∙ rw (drop_more files i d within, same, get_or_default files i e d within)

  with_here : ((octets : List ℕ) → with_file name octets files ≡ take i files ++ with_file name octets (drop i files))
      → (octets : List ℕ) (e : File) → with_file name octets files ≡ set files i (record (get_or files i e) { octets = octets })
  with_here rest octets e = rest octets ∙ rw (drop_more files i d within, same, get_or_default files i e d within, set_split, add-one)

  pub placed : file_of name files ≡ file_of name (drop i files)
      → ((octets : List ℕ) → with_file name octets files ≡ take i files ++ with_file name octets (drop i files))
      → IsPlace name files i
  placed file with = record { within = within; file = file_here file; with = with_here with }
