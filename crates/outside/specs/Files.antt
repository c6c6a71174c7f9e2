-- The files of a store by their names, and what each call does to them (profile).
use Rattle.std.specs.Prelude.{◌≡◌, ◌⊎◌, ◌↔◌, ℕ, ◌+◌, ◌-◌, ◌≤◌, ◌<◌, ◌^◌, min, List, [], ◌∷◌, ◌++◌, length, take, drop, slice_index_or, slice_set, if◌then◌else◌, bytes_eq, Option, None, Some, unwrap_or, Result, Ok, Err, IfOk, IsErr}
use Rattle.outside.specs.declared.file.File.{File}

-- files by their names; where two have one name the first counts
abbrev pub Files : Type 0
Files = List File

-- the octets of the named file, where there is one
abbrev pub file_of : List ℕ → Files → Option (List ℕ)
file_of name [] = None
file_of name (f ∷ fs) = if bytes_eq f.name name then Some f.octets else file_of name fs

-- the files, where the named one has these octets, put at the end where it is new
abbrev pub with_file : List ℕ → List ℕ → Files → Files
with_file name octets [] = record { name = name; octets = octets } ∷ []
with_file name octets (f ∷ fs) =
    if bytes_eq f.name name then record { name = f.name; octets = octets } ∷ fs
    else f ∷ with_file name octets fs

-- the store tells its files, and this one isn't among them
abbrev pub IsAbsent : List ℕ → Option Files → Type 0
IsAbsent name None = ⊥
IsAbsent name (Some files) = file_of name files ≡ None

-- the front of the room is the file's octets from the place on
abbrev pub IsPiece : List ℕ → ℕ → ℕ → List ℕ → Type 0
IsPiece octets from n room =
    (take n room ≡ take n (drop from octets)) × (n ≤ length octets - from) × ((n ≡ 0) ↔ (length octets ≤ from))

-- what a read of a file answers: an error where there is none
abbrev pub IsReadOf : {E : Type 0} → Option (List ℕ) → ℕ → Result ℕ E → List ℕ → Type 0
IsReadOf None from r room = IsErr r
IsReadOf (Some octets) from r room = IfOk r (λ n. IsPiece octets from n room)

-- what a read of the named file answers
abbrev pub IsRead : {E : Type 0} → List ℕ → ℕ → Files → Result ℕ E → List ℕ → Type 0
IsRead name from files r room = IsReadOf (file_of name files) from r room

-- a count of faults has risen, or stands at its last value, 2 ^ 64 - 1
abbrev pub Rose : ℕ → ℕ → Type 0
Rose before now = min (before + 1) (2 ^ 64 - 1) ≤ now

-- a count of faults has risen where nothing of a piece was taken
abbrev pub RoseAtNothing : {E : Type 0} → List ℕ → Result ℕ E → ℕ → ℕ → Type 0
RoseAtNothing bytes r before now = r ≡ Ok 0 → 0 < length bytes → Rose before now

-- the store tells its files, and an append to none of them is refused
abbrev pub IsRefusedAtNone : {E : Type 0} → List ℕ → Option Files → Result ℕ E → Type 0
IsRefusedAtNone name held r = IsAbsent name held → IsErr r

-- the files after a start: the named one is empty; after a refusal all are as before
abbrev pub started : {E : Type 0} → List ℕ → Result (Unit {0}) E → Files → Files
started name (Ok _) files = with_file name [] files
started name (Err _) files = files

-- the files after an append: the named one has the front of the piece that went; after a refusal all are as before
abbrev pub appended : {E : Type 0} → List ℕ → List ℕ → Result ℕ E → Files → Files
appended name bytes (Ok n) files = with_file name (unwrap_or (file_of name files) [] ++ take n bytes) files
appended name bytes (Err _) files = files

-- a sink's octets after a write: the front of the piece that went is at the end
abbrev pub written_more : {E : Type 0} → List ℕ → Result ℕ E → List ℕ → List ℕ
written_more bytes (Ok n) written = written ++ take n bytes
written_more bytes (Err _) written = written

-- a write took nothing of its piece
abbrev pub IsSinkRefusal : {E : Type 0} → List ℕ → Result ℕ E → Type 0
IsSinkRefusal bytes r = IsErr r ⊎ ((r ≡ Ok 0) × (0 < length bytes))

-- the first file of a name is the one at place i, from 0
pub record IsPlace (name : List ℕ) (files : Files) (i : ℕ) : Type 0 where
  pub within : i < length files
  pub file : (d : File) → file_of name files ≡ Some (slice_index_or files i d).octets
  pub with : (octets : List ℕ) (d : File)
      → with_file name octets files ≡ slice_set files i (record (slice_index_or files i d) { octets = octets })

-- no file has the name
pub record IsNowhere (name : List ℕ) (files : Files) : Type 0 where
  pub file : file_of name files ≡ None
  pub with : (octets : List ℕ) → with_file name octets files ≡ files ++ record { name = name; octets = octets } ∷ []

-- what a search for a name answers
abbrev pub IsPlaceOf : List ℕ → Files → Option ℕ → Type 0
IsPlaceOf name files None = IsNowhere name files
IsPlaceOf name files (Some i) = IsPlace name files i
