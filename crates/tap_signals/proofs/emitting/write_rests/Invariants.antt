use Rattle.std.proofs.Common.{◌≡◌, map, take}
use Rattle.tap_signals.specs.Told.{rest_told}
use Rattle.tap_signals.proofs.emitting.write_rests.Given as goal

abbrev pub invariant-loop-k : goal.invariant-loop-k
invariant-loop-k l = take l.k l.rests ≡ map (rest_told l.whole) (take l.k l.taps)
