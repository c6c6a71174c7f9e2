use Rattle.std.proofs.Common.{◌≡◌}
use Rattle.bench.proofs.measures.receive_idle.Given as goal

abbrev pub invariant-loop-step : goal.invariant-loop-step
invariant-loop-step l = l.receiver.steps ≡ l._step
