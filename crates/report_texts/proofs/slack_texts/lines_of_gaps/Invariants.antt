use Rattle.std.proofs.Common.{◌≡◌, ◌++◌, drop}
use Rattle.report_texts.specs.SlackTexts.{lines_of_gaps}
use Rattle.report_texts.proofs.slack_texts.lines_of_gaps.Given as goal

abbrev pub invariant-loop-gap : goal.invariant-loop-gap
invariant-loop-gap l = lines_of_gaps l.layout l.gaps ≡ l.text ++ lines_of_gaps l.layout (drop l.gap-index l.gaps)
