-- The first and the last thing that is found along a list.
use Rattle.std.specs.Prelude.{List, [], ◌∷◌, Option, None}
use Rattle.std.specs.Option.{option_or}

-- what is found first
abbrev pub first_found : {X Y : Type 0} → (X → Option Y) → List X → Option Y
first_found find [] = None
first_found find (x ∷ xs) = option_or (find x) (first_found find xs)

-- what is found last
abbrev pub last_found : {X Y : Type 0} → (X → Option Y) → List X → Option Y
last_found find [] = None
last_found find (x ∷ xs) = option_or (last_found find xs) (find x)
