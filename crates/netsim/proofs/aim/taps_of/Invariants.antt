use Rattle.std.proofs.Common.{All, take}
use Rattle.line_probe.specs.Taps.{HasTap}
use Rattle.program_endings.specs.Probes.{AreTapsOf}
use Rattle.netsim.proofs.aim.taps_of.Given as goal

abbrev pub invariant-loop-word : goal.invariant-loop-word
invariant-loop-word l = record {
  named : AreTapsOf l.network (take l.word-index l.words) l.taps;
  there : All (HasTap l.network) l.taps;
}
