use Rattle.std.proofs.Common.{◌≡◌, ◌+◌, ◌++◌, ◌∷◌, [], take}
use Rattle.line_probe.specs.Runs.{AreRunsOf}
use Rattle.line_probe.proofs.splitting.runs_of.Given as goal

abbrev pub invariant-symbols : goal.invariant-symbols
invariant-symbols l =
    record {
      runs : AreRunsOf l.from (l.initial.run.symbol ∷ take l.symbol-index l.rest) (l.runs ++ l.run ∷ []);
      ends : l.run.start + l.run.count ≡ l.from + l.symbol-index + 1;
    }
