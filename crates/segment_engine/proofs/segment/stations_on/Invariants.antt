use Rattle.std.proofs.Common.{◌≡◌, ◌++◌, drop, map}
use Rattle.layout.specs.Taps.{tap_of}
use Rattle.network.specs.TapsOnSegments.{numbers_on}
use Rattle.segment_engine.proofs.segment.stations_on.Given as goal

abbrev pub invariant-loop-k : goal.invariant-loop-k
invariant-loop-k l = l.numbers.items ++ numbers_on l.segment l.k (map tap_of (drop l.k l.stations)) ≡ numbers_on l.segment 0 (map tap_of l.stations)
