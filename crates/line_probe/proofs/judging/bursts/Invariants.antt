use Rattle.std.proofs.Common.{◌≡◌, ◌++◌, drop}
use Rattle.std.specs.Prelude.{◌==◌}
use Rattle.line_probe.specs.Bursts.{bursts_from}
use Rattle.line_probe.specs.Runs.{first_start, symbols_of_runs}
use Rattle.line_probe.proofs.judging.bursts.Given as goal

abbrev pub invariant-loop-k : goal.invariant-loop-k
invariant-loop-k l =
    l.bursts ++ bursts_from (first_start (drop l.k l.runs)) l.after_idle (symbols_of_runs (drop l.k l.runs))
    ≡ bursts_from (first_start l.runs) (first_start l.runs == 0) (symbols_of_runs l.runs)
