use Rattle.std.proofs.Common.{◌≡◌, length}
use Rattle.bench.proofs.measures.repeat_often.Given as goal

abbrev pub invariant-loop-step : goal.invariant-loop-step
invariant-loop-step l = length l.repeater.guards ≡ length l.hears
