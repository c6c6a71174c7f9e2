-- What of a file was given, piece by piece, to what takes it (profile). Octets are counted.
use Rattle.std.specs.Prelude.{◌≡◌, ℕ, ◌+◌, ◌≤◌, min, List, take, length, Option, None, Some}
use Rattle.outside.specs.Files.{Files, file_of}

-- so many octets of the front of a file were given, and none where there is no file
abbrev pub IsGivenOf : {T : Type 0} → (T → List ℕ → Type 0) → Option (List ℕ) → ℕ → T → Type 0
IsGivenOf given None seen taker = seen ≡ 0
IsGivenOf given (Some octets) seen taker = (seen ≤ length octets) × given taker (take seen octets)

-- where the store tells its files, so many octets of the front of this one were given
abbrev pub IsGiven : {T : Type 0} → (T → List ℕ → Type 0) → List ℕ → Option Files → ℕ → T → Type 0
IsGiven given name None seen taker = Unit {0}
IsGiven given name (Some files) seen taker = IsGivenOf given (file_of name files) seen taker

-- a file is there, and its octets were given, so many and up to one past a limit
abbrev pub IsGivenFrontOf : {T : Type 0} → (T → List ℕ → Type 0) → ℕ → Option (List ℕ) → ℕ → T → Type 0
IsGivenFrontOf given limit None seen taker = ⊥
IsGivenFrontOf given limit (Some octets) seen taker =
    (seen ≡ min (length octets) (limit + 1)) × given taker (take seen octets)

-- where the store tells its files, this one is there, and its octets were given, so many and up to one past a limit
abbrev pub IsGivenFront : {T : Type 0} → (T → List ℕ → Type 0) → ℕ → List ℕ → Option Files → ℕ → T → Type 0
IsGivenFront given limit name None seen taker = Unit {0}
IsGivenFront given limit name (Some files) seen taker = IsGivenFrontOf given limit (file_of name files) seen taker

-- a file is there and has at most so many octets
abbrev pub EndsBeforeOf : Option (List ℕ) → ℕ → Type 0
EndsBeforeOf None from = ⊥
EndsBeforeOf (Some octets) from = length octets ≤ from

-- where the store tells its files, this one is there and has at most so many octets
abbrev pub EndsBefore : List ℕ → Option Files → ℕ → Type 0
EndsBefore name None from = Unit {0}
EndsBefore name (Some files) from = EndsBeforeOf (file_of name files) from
