use Rattle.std.proofs.Common.{◌≡◌, ◌++◌, map}
use Rattle.std.specs.List.{range_with_len}
use Rattle.layout.specs.declared.ways.Attachment.TheVariants.{Port}
use Rattle.tap_signals.proofs.taps.add_ports.Given as goal

abbrev pub invariant-loop-port : goal.invariant-loop-port
invariant-loop-port l = l.taps.items ≡ l.fn.taps.items ++ map (Port l.repeater) (range_with_len 0 l.port)
