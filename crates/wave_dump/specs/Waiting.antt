-- The runs of taps that are still to be told, one list a tap, the earliest of them first. Half bits count from 0, and
-- so do taps.
use Rattle.std.specs.Prelude.{ℕ, ◌+◌, ◌==◌, Bool, false, if◌then◌else◌, List, [], ◌∷◌, ◌++◌}
use Rattle.std.specs.List.{list_any}
use Rattle.line_probe.specs.declared.run.Run.{Run}
use Rattle.wave_dump.specs.Values.{line_of_time, line_of_value}

-- whether the first of a tap's runs begins in half bit t
abbrev pub does_begin : ℕ → List Run → Bool
does_begin t [] = false
does_begin t (r ∷ rs) = r.start == t

-- the value of the k-th tap, if the first of its runs begins in half bit t
abbrev pub begun_value : ℕ → ℕ → List Run → List ℕ
begun_value t k [] = []
begun_value t k (r ∷ rs) = if r.start == t then line_of_value k r.symbol else []

-- a tap's runs without the one that begins in half bit t
abbrev pub runs_after : ℕ → List Run → List Run
runs_after t [] = []
runs_after t (r ∷ rs) = if r.start == t then rs else r ∷ rs

-- the values of those of these taps, the first of which is the k-th, that have a run that begins in half bit t
abbrev pub begun_values : ℕ → ℕ → List (List Run) → List ℕ
begun_values t k [] = []
begun_values t k (runs ∷ waiting) = begun_value t k runs ++ begun_values t (k + 1) waiting

-- what is told of half bit t: its time and these values, or nothing if no run begins in it
abbrev pub begun_moment : ℕ → List (List Run) → List ℕ
begun_moment t waiting =
    if list_any (does_begin t) waiting then line_of_time t ++ begun_values t 0 waiting else []
