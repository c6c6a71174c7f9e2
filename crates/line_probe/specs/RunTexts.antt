-- The texts of runs (profile). Half bits count from 0, lines from 1.
use Rattle.std.specs.Prelude.{ℕ, List, ◌++◌, flat_map, decimal, codes}
use Rattle.manchester_line.specs.declared.Sym.{Sym}
use Rattle.manchester_line.specs.declared.Sym.TheVariants.{Idle, Hi, Lo, Clash}
use Rattle.line_probe.specs.declared.run.Run.{Run}

-- the word for a symbol
abbrev pub word_of_symbol : Sym → List ℕ
word_of_symbol Idle = codes "idle"
word_of_symbol Hi = codes "hi"
word_of_symbol Lo = codes "lo"
word_of_symbol Clash = codes "clash"

-- the line of a run, with its line feed
abbrev pub line_of_run : Run → List ℕ
line_of_run r = decimal r.start ++ codes " " ++ decimal r.count ++ codes " " ++ word_of_symbol r.symbol ++ codes "\n"

-- the text of runs, one line a run
abbrev pub text_of_runs : List Run → List ℕ
text_of_runs runs = flat_map line_of_run runs
