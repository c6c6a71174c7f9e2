use Rattle.std.proofs.Common.{◌≡◌, ◌++◌, drop}
use Rattle.report_texts.specs.SlackTexts.{lines_of_delays}
use Rattle.report_texts.proofs.slack_texts.lines_of_delays.Given as goal

abbrev pub invariant-loop-delay : goal.invariant-loop-delay
invariant-loop-delay l = lines_of_delays l.layout l.delays ≡ l.text ++ lines_of_delays l.layout (drop l.delay-index l.delays)
