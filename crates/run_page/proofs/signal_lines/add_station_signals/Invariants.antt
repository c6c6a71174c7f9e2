use Rattle.std.proofs.Common.{◌≡◌, ◌-◌, ◌++◌, drop, length, map}
use Rattle.std.specs.List.{range_with_len}
use Rattle.layout.specs.declared.ways.Attachment.TheVariants.{Station}
use Rattle.run_page.specs.SignalLines.{lines_of_taps}
use Rattle.run_page.proofs.signal_lines.add_station_signals.Given as goal

abbrev pub invariant-lists : goal.invariant-lists
invariant-lists l =
    l.text ++ lines_of_taps l.layout (map Station (range_with_len l.k (length l.lists - l.k))) (drop l.k l.lists)
    ≡ l.fn.text ++ lines_of_taps l.layout (map Station (range_with_len 0 (length l.lists))) l.lists
