use Rattle.std.proofs.Common.{◌≡◌, ◌++◌, replicate}
use Rattle.layout.proofs.taps.push_delays.Given as goal

abbrev pub invariant-loop-port : goal.invariant-loop-port
invariant-loop-port l = l.delays.items ≡ l.fn.delays.items ++ replicate l._port l.delay
