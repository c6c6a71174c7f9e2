use Rattle.std.proofs.Common.{take}
use Rattle.manchester_line.specs.Decoding.{Decodes}
use Rattle.line_probe.specs.Runs.{symbols_of_runs}
use Rattle.line_probe.proofs.BurstsSoFar.{AreSignals}
use Rattle.line_probe.proofs.judging.burst_in_front.Given as goal

abbrev pub invariant-runs : goal.invariant-runs
invariant-runs l =
    record {
      decodes : Decodes (symbols_of_runs (take l.run-index l.runs)) l.decoder;
      signals : AreSignals (symbols_of_runs (take l.run-index l.runs));
    }
