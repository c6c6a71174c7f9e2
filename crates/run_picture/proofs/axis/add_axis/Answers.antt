use Rattle.run_picture.proofs.Ticks.{more_ticks}
use Rattle.run_picture.proofs.axis.add_axis.Goals as goal

pub ticks-preserved : goal.ticks-preserved
ticks-preserved c =
    more_ticks c.args.window c.args.height c.tick_step-step.result c.ticks.t c.ticks.text c.add_tick_at.new.text _ c.ticks-test.true c.in_ok-add_tick_at.ensures c.ticks.invariant
