-- The lines of a text (profile). A line feed is octet 10.
use Rattle.std.specs.Prelude.{ℕ, Bool, not, ◌==◌, if◌then◌else◌, List, [], ◌∷◌}

-- an octet in front of the first of these lines
abbrev pub onto_first_line : ℕ → List (List ℕ) → List (List ℕ)
onto_first_line c [] = (c ∷ []) ∷ []
onto_first_line c (line ∷ lines) = (c ∷ line) ∷ lines

-- the lines of octets, each with the line feed that ends it; the last one may lack it
abbrev pub text_lines : List ℕ → List (List ℕ)
text_lines [] = []
text_lines (c ∷ cs) = if c == 10 then (c ∷ []) ∷ text_lines cs else onto_first_line c (text_lines cs)

-- whether an octet is no line feed
abbrev pub is_within_line : ℕ → Bool
is_within_line c = not (c == 10)
