use Rattle.std.proofs.Common.{drop}
use Rattle.run_endings.specs.Endings.{HasOnlyFiled}
use Rattle.run_endings.specs.Runs.{capture_files}
use Rattle.run_forms.proofs.FilesInTurn.{IsLeft}
use Rattle.run_forms.proofs.outputs.file_captures.Given as goal

abbrev pub invariant-loop-k : goal.invariant-loop-k
invariant-loop-k g l =
    IsLeft (capture_files l.prefix l.stations l.captures) (capture_files l.prefix (drop l.k l.stations) (drop l.k l.captures)) l.fn.world.held l.world.held
    × HasOnlyFiled l.fn.world l.world
