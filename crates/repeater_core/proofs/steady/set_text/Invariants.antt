use Rattle.std.proofs.Common.{◌≡◌, ◌++◌, length, map, take, drop}
use Rattle.manchester_line.specs.Line.{is_signal}
use Rattle.repeater_core.specs.Steady.{texted}
use Rattle.repeater_core.proofs.steady.set_text.Given as goal

abbrev pub invariant-loop-symbol : goal.invariant-loop-symbol
invariant-loop-symbol l = record {
  len : length l.decided ≡ length l.fn.decided;
  texts : take l.symbol-index l.decided ++ texted (map is_signal (drop l.symbol-index l.decided)) l.text ≡ texted (map is_signal l.fn.decided) l.text;
}
