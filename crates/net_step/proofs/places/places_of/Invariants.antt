use Rattle.std.proofs.Common.{◌≡◌, ◌++◌, drop}
use Rattle.net_step.specs.Wires.{places_from}
use Rattle.net_step.proofs.places.places_of.Given as goal

abbrev pub invariant-loop-q : goal.invariant-loop-q
invariant-loop-q l = l.places.items ++ places_from l.q l.taps (drop l.q l.taps) ≡ places_from 0 l.taps l.taps
