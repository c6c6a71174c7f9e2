use Rattle.std.proofs.Common.{◌≡◌, ◌+◌, drop}
use Rattle.repeater_core.specs.SilentParts.{idle_front}
use Rattle.repeater_core.proofs.calm.idle_front.Given as goal

abbrev pub invariant-loop-k : goal.invariant-loop-k
invariant-loop-k l = l.k + idle_front (drop l.k l.symbols) ≡ idle_front l.symbols
