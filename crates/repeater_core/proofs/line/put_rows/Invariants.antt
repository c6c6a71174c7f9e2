use Rattle.std.proofs.Common.{◌≡◌, ◌-◌, ◌<◌, ◌≤◌, length, map, drop}
use Rattle.manchester_line.specs.Line.{is_signal}
use Rattle.repeater_core.specs.Classes.{line_with}
use Rattle.repeater_core.proofs.RingLeaps.{ring}
use Rattle.repeater_core.proofs.line.put_rows.Given as goal

abbrev pub decreases-loop-written : goal.decreases-loop-written
decreases-loop-written l = length l.texts - l.written

-- what is left to put in leads to the same
abbrev pub invariant-loop-written : goal.invariant-loop-written
invariant-loop-written l = record {
  len : length l.slots ≡ length l.fn.slots;
  turn_below : l.turn < l.delay;
  within : l.written ≤ length l.texts;
  left : line_with (map is_signal l.flags) (drop l.written l.texts) (ring (length l.flags) l.delay l.turn l.slots) ≡ line_with (map is_signal l.flags) l.texts (ring (length l.flags) l.delay l.fn.turn l.fn.slots);
}
