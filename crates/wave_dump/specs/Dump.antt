-- The value change dump of what taps hear: the four-state form of IEEE 1364 clause 18. Half bits count from 0, and so
-- do taps.
use Rattle.std.specs.Prelude.{ℕ, ◌+◌, List, [], ◌∷◌, ◌++◌, flat_map, codes, decimal}
use Rattle.mac_parameters.specs.Parameters.{nanoseconds_a_half_bit}
use Rattle.manchester_line.specs.declared.Sym.{Sym}
use Rattle.wave_dump.specs.Changes.{all_values, changed_values, changing_half_bits}
use Rattle.wave_dump.specs.Values.{code_of_tap, line_of_time}

-- what is told of the dump as a whole: its half bits, and the unit of its times
unfoldable pub lines_of_stretch : ℕ → ℕ → List ℕ
lines_of_stretch from to =
    codes "$comment netsim: half bits " ++ decimal from ++ codes " to " ++ decimal to ++ codes ", of "
    ++ decimal nanoseconds_a_half_bit ++ codes " ns each $end\n" ++ codes "$timescale 1 ns $end\n"

-- the line that gives the k-th tap its code and its name
unfoldable pub line_of_variable : ℕ → List ℕ → List ℕ
line_of_variable k name = codes "$var wire 1 " ++ code_of_tap k ++ codes " " ++ name ++ codes " $end\n"

-- the lines that give these taps, of which the first is the k-th, their codes and names
abbrev pub lines_of_variables : ℕ → List (List ℕ) → List ℕ
lines_of_variables k [] = []
lines_of_variables k (name ∷ names) = line_of_variable k name ++ lines_of_variables (k + 1) names

-- the head of a dump: its half bits, the unit of its times, and its taps
unfoldable pub head_of_dump : List (List ℕ) → ℕ → ℕ → List ℕ
head_of_dump names from to =
    lines_of_stretch from to ++ codes "$scope module net $end\n" ++ lines_of_variables 0 names
    ++ codes "$upscope $end\n" ++ codes "$enddefinitions $end\n"

-- the time of the first half bit, and the values of all taps in it
abbrev pub first_moment : ℕ → List (List Sym) → List ℕ
first_moment from heard =
    line_of_time from ++ codes "$dumpvars\n" ++ all_values from from 0 heard ++ codes "$end\n"

-- the time of half bit t, and the values that changed in it
abbrev pub told_moment : ℕ → List (List Sym) → ℕ → List ℕ
told_moment from heard t = line_of_time t ++ changed_values from t 0 heard

-- the dump of what taps of these names hear from half bit `from` on and before half bit `to`
abbrev pub dump_of_waves : List (List ℕ) → ℕ → ℕ → List (List Sym) → List ℕ
dump_of_waves names from to heard =
    head_of_dump names from to ++ first_moment from heard
    ++ flat_map (told_moment from heard) (changing_half_bits from to heard) ++ line_of_time to
