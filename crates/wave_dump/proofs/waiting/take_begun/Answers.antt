use Rattle.std.proofs.Common.{List, arith}
use denote.Ref.{Bor}
use Rattle.line_probe.specs.declared.run.Run.{Run}
use Rattle.wave_dump.specs.Waiting.{runs_after}
use Rattle.wave_dump.proofs.Taken.{one_changed_at}
use Rattle.wave_dump.proofs.waiting.take_begun.Goals as goal

pub taps-preserved : goal.taps-preserved
taps-preserved c =
    one_changed_at (λ (runs : Bor (List Run)). runs.now) (runs_after c.args.t) c.taps.waiting c.args.waiting.now c.taps.k c.runs_after.result _ (omega (arith, c.taps.auto.waiting)) c.taps-test.true c.taps.invariant c.runs_after.ensures
