use Rattle.std.proofs.Common.{◌≡◌, ◌-◌, ◌<◌, ◌≤◌, ℕ, length, map}
use Rattle.std.specs.Fn.{iterate}
use Rattle.manchester_line.specs.Line.{is_signal}
use Rattle.repeater_core.specs.Delayed.{oldest}
use Rattle.repeater_core.specs.Modes.{IsMode}
use Rattle.repeater_core.specs.Steady.{line_later, mode_on, sent_text, texted}
use Rattle.repeater_core.proofs.steady.leap_line.Given as goal

-- what is left to do leads to the same
abbrev pub invariant-loop-left : goal.invariant-loop-left
invariant-loop-left l = record {
  decided_len : length l.decided ≡ l.line.ports;
  emits_len : length l.emits ≡ l.line.ports;
  flags : map is_signal l.decided ≡ map is_signal l.fn.decided;
  modes : (k : ℕ) → k < l.left → IsMode (iterate mode_on k l.mode);
  texts : (k : ℕ) → k < l.left → map is_signal (texted (map is_signal l.fn.decided) (sent_text (mode_on (iterate mode_on k l.mode)) l.hears)) ≡ map is_signal l.fn.decided;
  mode_then : iterate mode_on l.left l.mode ≡ iterate mode_on l.n l.fn.mode;
  line_then : line_later l.hears (map is_signal l.fn.decided) l.left l.mode l.line ≡ line_later l.hears (map is_signal l.fn.decided) l.n l.fn.mode l.fn.line;
  within : l.left ≤ l.n;
  before : 0 < l.left → line_later l.hears (map is_signal l.fn.decided) (l.left - 1) l.mode l.line ≡ line_later l.hears (map is_signal l.fn.decided) (l.n - 1) l.fn.mode l.fn.line;
  emitted : l.left ≡ 0 → 0 < l.n → l.emits ≡ oldest (line_later l.hears (map is_signal l.fn.decided) (l.n - 1) l.fn.mode l.fn.line);
  sent : l.left < l.n → l.decided ≡ texted (map is_signal l.fn.decided) (sent_text l.mode l.hears);
}

-- proposed from the loop's first test
abbrev pub decreases-loop-left : goal.decreases-loop-left
decreases-loop-left l = l.left
