-- The line of a path verdict (profile).
use Rattle.std.specs.Prelude.{◌≡◌, ℕ, List, [], ◌++◌, codes, decimal, map, slice_get, unwrap_or}
use Rattle.layout.specs.declared.lines.Layout.{Layout}
use Rattle.path_checker.specs.Verdicts.{IsVerdict}
use Rattle.path_checker.specs.declared.verdict.PathVerdict.{PathVerdict}
use Rattle.path_checker.specs.declared.verdict.PathVerdict.TheVariants.{Within, Over, NoPair}

-- the name of a station, by its number from 0
abbrev pub name_of_station : Layout → ℕ → List ℕ
name_of_station layout station = unwrap_or (slice_get (map (λ s. s.name) layout.stations) station) []

-- the worst round trip in half bits, and the names of its two stations, by their numbers from 0
abbrev pub text_of_pair : Layout → ℕ → ℕ → ℕ → List ℕ
text_of_pair layout worst a b =
    decimal worst ++ codes " " ++ name_of_station layout a ++ codes " " ++ name_of_station layout b ++ codes "\n"

-- the line of a path verdict: whether the worst round trip is within the slot time (slotTime, 4.4.2), or that there
-- are fewer than two stations
abbrev pub line_of_verdict : Layout → PathVerdict → List ℕ
line_of_verdict layout (Within worst a b) = codes "within " ++ text_of_pair layout worst a b
line_of_verdict layout (Over worst a b) = codes "over " ++ text_of_pair layout worst a b
line_of_verdict layout NoPair = codes "no pair\n"

-- the line of the layout's verdict
pub record IsVerdictLine (layout : Layout) (line : List ℕ) : Type 0 where
  pub verdict : PathVerdict
  pub right : IsVerdict layout verdict
  pub text : line ≡ line_of_verdict layout verdict
