use Rattle.std.proofs.Common.{◌≡◌, ◌++◌, drop}
use Rattle.log_meter.specs.FigureTexts.{lines_of_repeaters}
use Rattle.log_meter.proofs.texts.add_repeaters.Given as goal

abbrev pub invariant-loop-repeater : goal.invariant-loop-repeater
invariant-loop-repeater l = l.text ++ lines_of_repeaters (drop l.repeater-index l.repeaters) ≡ l.fn.text ++ lines_of_repeaters l.repeaters
