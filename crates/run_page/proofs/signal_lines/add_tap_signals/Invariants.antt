use Rattle.std.proofs.Common.{◌≡◌, ◌++◌, drop}
use Rattle.std.specs.List.{flat_map}
use Rattle.run_page.specs.SignalLines.{signal_line, word_of_tap}
use Rattle.run_page.proofs.signal_lines.add_tap_signals.Given as goal

abbrev pub invariant-loop-stretch : goal.invariant-loop-stretch
invariant-loop-stretch l =
    l.text ++ flat_map (signal_line (word_of_tap l.layout l.tap)) (drop l.stretch-index l.stretches)
    ≡ l.fn.text ++ flat_map (signal_line (word_of_tap l.layout l.tap)) l.stretches
