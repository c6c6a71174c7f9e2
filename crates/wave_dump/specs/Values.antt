-- The lines of a value change dump that tell times and values (IEEE 1364 clause 18). Half bits count from 0, and so do
-- taps.
use Rattle.std.specs.Prelude.{ℕ, ◌+◌, ◌*◌, List, [], ◌∷◌, ◌++◌, codes, decimal}
use Rattle.mac_parameters.specs.Parameters.{nanoseconds_a_half_bit}
use Rattle.manchester_line.specs.declared.Sym.{Sym}
use Rattle.manchester_line.specs.declared.Sym.TheVariants.{Idle, Hi, Lo, Clash}

-- the line of a half bit's time, in nanoseconds
unfoldable pub line_of_time : ℕ → List ℕ
line_of_time t = codes "#" ++ decimal (nanoseconds_a_half_bit * t) ++ codes "\n"

-- a symbol as a value of four states: an idle line has a high impedance, and of a clash nothing is known
abbrev pub value_of_symbol : Sym → List ℕ
value_of_symbol Idle = codes "z"
value_of_symbol Hi = codes "1"
value_of_symbol Lo = codes "0"
value_of_symbol Clash = codes "x"

-- the code by which the dump names the k-th tap: one printable character, from "!" on
unfoldable pub code_of_tap : ℕ → List ℕ
code_of_tap k = (33 + k) ∷ []

-- the line of the k-th tap's value
unfoldable pub line_of_value : ℕ → Sym → List ℕ
line_of_value k symbol = value_of_symbol symbol ++ code_of_tap k ++ codes "\n"
