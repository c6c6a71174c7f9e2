-- The taps of one segment among all taps, where they are numbered from 0 in the order of all taps (profile). Segments
-- and taps count from 0.
use Rattle.std.specs.Prelude.{ℕ, ◌+◌, ◌==◌, if◌then◌else◌, List, [], ◌∷◌, count_by}
use Rattle.layout.specs.declared.lines.PortLine.{PortLine}

-- How many of these taps are on segment s.
abbrev pub count_on : ℕ → List PortLine → ℕ
count_on s taps = count_by (λ x. x.segment == s) taps

-- Which of these taps are on segment s, where the first of these is tap k.
abbrev pub numbers_on : ℕ → ℕ → List PortLine → List ℕ
numbers_on s k [] = []
numbers_on s k (x ∷ xs) = if x.segment == s then k ∷ numbers_on s (k + 1) xs else numbers_on s (k + 1) xs
