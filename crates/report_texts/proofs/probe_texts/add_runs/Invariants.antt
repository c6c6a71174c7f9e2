use Rattle.std.proofs.Common.{◌≡◌, ◌++◌, drop}
use Rattle.line_probe.specs.RunTexts.{text_of_runs}
use Rattle.report_texts.proofs.probe_texts.add_runs.Given as goal

abbrev pub invariant-loop-run : goal.invariant-loop-run
invariant-loop-run l = l.text ++ text_of_runs (drop l.run-index l.runs) ≡ l.fn.text ++ text_of_runs l.runs
