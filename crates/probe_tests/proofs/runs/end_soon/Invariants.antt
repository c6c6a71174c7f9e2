use Rattle.std.proofs.Common.{◌≡◌, drop}
use Rattle.line_probe.specs.Runs.{end_after_runs}
use Rattle.probe_tests.proofs.runs.end_soon.Given as goal

abbrev pub invariant-loop-run : goal.invariant-loop-run
invariant-loop-run l = end_after_runs l.end (drop l.run-index l.runs) ≡ end_after_runs 0 l.runs
