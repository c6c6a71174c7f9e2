use Rattle.std.proofs.Common.{◌≡◌, ◌++◌, drop}
use Rattle.report_texts.specs.HeardTexts.{text_of_bursts}
use Rattle.report_texts.proofs.probe_texts.add_bursts.Given as goal

abbrev pub invariant-loop-burst : goal.invariant-loop-burst
invariant-loop-burst l = l.text ++ text_of_bursts (drop l.burst-index l.bursts) ≡ l.fn.text ++ text_of_bursts l.bursts
