use Rattle.std.proofs.Common.{◌≡◌, ◌++◌, drop}
use Rattle.layout.specs.Taps.{positions_on}
use Rattle.layout.proofs.taps.places_on.Given as goal

abbrev pub invariant-loop-tap : goal.invariant-loop-tap
invariant-loop-tap l = l.places.items ++ positions_on l.segment (drop l.tap-index l.taps) ≡ positions_on l.segment l.taps
