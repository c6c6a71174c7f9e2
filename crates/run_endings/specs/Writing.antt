-- What is written of a text, to a file and to the sink (profile).
use Rattle.std.specs.Prelude.{◌≡◌, ◌⊎◌, ℕ, ◌<◌, ◌≤◌, List, [], ◌∷◌, ◌++◌, take, length, Option, option_map}
use Rattle.outside.specs.Files.{Files, with_file, Rose}
use Rattle.outside.specs.declared.file.File.{File}

-- the store's files, where this one has a text
abbrev pub put_file : List ℕ → List ℕ → Option Files → Option Files
put_file name text held = option_map (with_file name text) held

-- after a refusal: the file is as it was, or a front of its text that isn't all of it
abbrev pub IsBroken : List ℕ → List ℕ → Option Files → Option Files → Type 0
IsBroken name text before now =
    (now ≡ before) ⊎ ((k : ℕ) × (now ≡ put_file name (take k text) before) × (k < length text))

-- the store's files, where each of these, one after the other, has its text
abbrev pub put_all : List File → Option Files → Option Files
put_all [] held = held
put_all (f ∷ fs) held = put_all fs (put_file f.name f.octets held)

-- after a refusal in the midst of these files: those before one of them are whole, that one is as it was or a front
-- of its text that isn't all of it, and later ones are as before
abbrev pub IsBrokenAmong : List File → Option Files → Option Files → Type 0
IsBrokenAmong [] before now = ⊥
IsBrokenAmong (f ∷ fs) before now =
    IsBroken f.name f.octets before now ⊎ IsBrokenAmong fs (put_file f.name f.octets before) now

-- a front of a line was written, and less than all of it only where the sink refused; the last two numbers count its
-- refusals
abbrev pub IsSaid : List ℕ → Option (List ℕ) → Option (List ℕ) → ℕ → ℕ → Type 0
IsSaid line written now before after =
    (k : ℕ) × (now ≡ option_map (λ w. w ++ take k line) written)
    × (before ≤ after) × ((k ≡ length line) ⊎ Rose before after)

-- what was written, with a text after it
abbrev pub added : List ℕ → Option (List ℕ) → Option (List ℕ)
added text written = option_map (λ w. w ++ text) written

-- a front of a text was written, and not all of it
abbrev pub IsCutShort : List ℕ → Option (List ℕ) → Option (List ℕ) → Type 0
IsCutShort text written now = (k : ℕ) × (now ≡ added (take k text) written) × (k < length text)
