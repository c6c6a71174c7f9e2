use Rattle.std.proofs.Common.{◌≡◌, ◌+◌, ◌-◌, ◌++◌}
use Rattle.std.specs.List.{range_with_len}
use Rattle.run_picture.specs.Axis.{axis, ticks}
use Rattle.run_picture.proofs.axis.add_axis.Given as goal

abbrev pub invariant-ticks : goal.invariant-ticks
invariant-ticks l = l.text ++ ticks l.window l.height l.step (range_with_len l.t (l.window.to + 1 - l.t)) ≡ l.fn.text ++ axis l.window l.height
