-- What is read of a file (profile).
use Rattle.std.specs.Prelude.{◌≡◌, ℕ, ◌+◌, List, take, Option, None, Some, option_map}
use Rattle.outside.specs.Files.{Files, file_of}

-- the file's octets, up to one past a limit
unfoldable pub front_of : ℕ → List ℕ → Files → Option (List ℕ)
front_of limit name files = option_map (take (limit + 1)) (file_of name files)

-- where the store tells its files, these are the octets that are read of one
abbrev pub IsFront : ℕ → List ℕ → Option Files → List ℕ → Type 0
IsFront limit name None octets = Unit {0}
IsFront limit name (Some files) octets = front_of limit name files ≡ Some octets
