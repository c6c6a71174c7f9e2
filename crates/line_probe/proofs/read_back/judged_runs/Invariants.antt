use Rattle.std.proofs.Common.{◌≡◌, ◌+◌, ◌≤◌, ◌++◌, None, length}
use Rattle.std.specs.List.{AllByRecursion}
use Rattle.line_probe.specs.ReadBack.{FollowOn, IsToldRun, last_run}
use Rattle.line_probe.specs.RunTexts.{text_of_runs}
use Rattle.line_probe.proofs.read_back.judged_runs.Given as goal

abbrev pub invariant-loop-rest : goal.invariant-loop-rest
invariant-loop-rest l =
    record {
      text : l.bytes ≡ text_of_runs l.runs ++ l.rest;
      each : AllByRecursion IsToldRun l.runs;
      order : FollowOn None l.runs;
      last : l.last ≡ last_run None l.runs;
      number : l.number ≡ length l.runs;
      room : l.number + length l.rest ≤ 4000000000;
    }

abbrev pub decreases-loop-rest : goal.decreases-loop-rest
decreases-loop-rest l = length l.rest
