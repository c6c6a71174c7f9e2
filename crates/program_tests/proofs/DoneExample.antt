-- An example of what is done with status 0: `meter l`, where the store holds an empty file of that name, says that the
-- log has no rows and changes nothing. `--version` isn't done where nothing is said, and words of no form never are.
use Rattle.std.proofs.Common.{◌≡◌, ℕ, true, false, List, [], ◌∷◌, Some, refl, arith}
use Rattle.std.specs.Prelude.{codes}
use Rattle.std.specs.Fmt.{digits}
use Rattle.std.specs.List.Sorted.{IsStrictlySortedBy}
use Rattle.log_meter.specs.FigureTexts.{AreFiguresIn}
use Rattle.program_endings.specs.Meters.{IsReadLog}
use Rattle.run_endings.specs.Moments.{Moment}
use Rattle.run_endings.specs.Reading.{front_of}
use Rattle.program_endings.specs.Statuses.{IsDone}
use Rattle.outside.specs.Files.{Files}
use Rattle.program_words.specs.Requests.{asked}

-- the store's only file: the log l, which is empty
abbrev one_log : Files
one_log = record { name = codes "l"; octets = [] } ∷ []

-- the store with that file and no fault, and a sink that got this text
abbrev after_saying : List ℕ → Moment
after_saying said =
    record { held = Some one_log; reads = 0; writes = 0; written = Some said; faults = 0; refused = 0 }

no_rows : AreFiguresIn [] (codes "rows 0 sending 0\n")
unfolding IsStrictlySortedBy digits
no_rows = record {
  figures = record { stations = []; repeaters = [] };
  of_lines = record {
    stations = record { order = tt; named = λ name. (λ c. absurd (omega (arith, c.1)), λ e. absurd (never e)) };
    repeaters = record { order = tt; named = λ name. (λ c. absurd (omega (arith, c.1)), λ e. absurd (never e)) };
    of_stations = λ k d within. absurd (omega (arith, within));
    of_repeaters = λ k d within. absurd (omega (arith, within));
  };
  text_is = refl;
}
  where
    never : false ≡ true → ⊥
    never e = cc

read_whole : IsReadLog (codes "l") (Some one_log) []
unfolding front_of
read_whole = refl

pub meter_is_done : IsDone (asked (codes "meter" ∷ codes "l" ∷ [])) (after_saying []) (after_saying (codes "rows 0 sending 0\n"))
meter_is_done = record {
  text = codes "rows 0 sending 0\n";
  right = record {
    octets = [];
    read = read_whole;
    few = omega arith;
    figures = record { lines = []; log = record { log = record { grammar = tt; order = tt }; text = refl }; told = no_rows };
  };
  written = refl;
  held = refl;
}

pub version_has_to_be_said : IsDone (asked (codes "--version" ∷ [])) (after_saying []) (after_saying []) → ⊥
version_has_to_be_said done = let said = done.written in cc

pub no_form_is_done : (after : Moment) → IsDone (asked (codes "metre" ∷ codes "l" ∷ [])) (after_saying []) after → ⊥
no_form_is_done after done = done
