use Rattle.std.proofs.Common.{◌≡◌, ◌++◌, drop, map}
use Rattle.std.specs.List.{range_with_len}
use Rattle.layout.specs.declared.ways.Attachment.TheVariants.{Station}
use Rattle.tap_signals.specs.Taps.{ports_from, taps_in_order}
use Rattle.tap_signals.proofs.taps.taps_in_order.Given as goal

abbrev pub invariant-loop-station : goal.invariant-loop-station
invariant-loop-station l = l.taps.items ≡ map Station (range_with_len 0 l.station)

abbrev pub invariant-loop-repeater : goal.invariant-loop-repeater
invariant-loop-repeater l = l.taps.items ++ ports_from l.repeater (drop l.repeater l.repeaters) ≡ taps_in_order l.plan.layout
