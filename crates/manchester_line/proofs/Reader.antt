-- A reader that keeps all bits after the delimiter: what a decoder keeps is less.
use Rattle.std.specs.Prelude.{Bool, true, false, ◌&&◌, if◌then◌else◌, Option, Some, None, List, [], ◌∷◌, ◌++◌}
use Rattle.manchester_line.specs.declared.Sym.{Sym}
use Rattle.manchester_line.specs.Reading.{bit_of_pair}

-- a decoder with room for all bits after the delimiter
pub record Reader : Type 0 where
  pub half : Option Sym
  pub spoiled : Bool
  pub found : Bool
  pub last : Bool
  pub bits : List Bool

abbrev pub new_reader : Reader
new_reader = record { half = None; spoiled = false; found = false; last = false; bits = [] }

abbrev pub read_bit : Reader → Option Bool → Reader
read_bit r None = record { half = None; spoiled = true; found = r.found; last = r.last; bits = r.bits }
read_bit r (Some b) =
    if r.found then record { half = None; spoiled = r.spoiled; found = true; last = r.last; bits = r.bits ++ b ∷ [] }
    else record { half = None; spoiled = r.spoiled; found = r.last && b; last = b; bits = r.bits }

abbrev pub read_half : Reader → Option Sym → Sym → Reader
read_half r None s = record { half = Some s; spoiled = r.spoiled; found = r.found; last = r.last; bits = r.bits }
read_half r (Some a) s = read_bit r (bit_of_pair a s)

abbrev pub read : Reader → Sym → Reader
read r s = read_half r r.half s

abbrev pub all_read : Reader → List Sym → Reader
all_read r [] = r
all_read r (s ∷ ss) = all_read (read r s) ss

abbrev pub whole : Option Sym → Bool → List Bool → Option (List Bool)
whole None false bits = Some bits
whole _ _ bits = None

abbrev pub answer : Reader → Option (List Bool)
answer r = whole r.half r.spoiled r.bits
