use Rattle.std.proofs.Common.{◌≡◌, drop}
use Rattle.net_step.specs.Wires.{symbols_of, told_from}
use Rattle.net_step.proofs.segment.tell.Given as goal

abbrev pub invariant-loop-r : goal.invariant-loop-r
invariant-loop-r l = record {
  places : l.cable.positions ≡ l.fn.cable.positions;
  told : told_from l.cable l.r (symbols_of l.emitted (drop l.r l.taps)) ≡ told_from l.fn.cable 0 (symbols_of l.emitted l.taps);
}
