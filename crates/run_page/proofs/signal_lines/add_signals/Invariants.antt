use Rattle.std.proofs.Common.{◌≡◌, ◌++◌, drop, length}
use Rattle.tap_signals.specs.Taps.{ports_from}
use Rattle.run_page.specs.SignalLines.{lines_of_taps, signal_lines}
use Rattle.run_page.proofs.signal_lines.add_signals.Given as goal

abbrev pub invariant-repeaters : goal.invariant-repeaters
invariant-repeaters l = record {
  many : length l.rest ≡ length (ports_from l.r (drop l.r l.repeaters));
  so_far : l.text ++ lines_of_taps l.layout (ports_from l.r (drop l.r l.repeaters)) l.rest ≡ l.fn.text ++ signal_lines l.layout l.lists;
}
