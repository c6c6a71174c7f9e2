use Rattle.std.proofs.Common.{take}
use Rattle.line_probe.specs.Heard.{AreProbed}
use Rattle.line_probe.proofs.hearing.probe.Given as goal

abbrev pub invariant-loop-k : goal.invariant-loop-k
invariant-loop-k l = AreProbed l.plan l.from l.to (take l.k l.taps) l.lists
