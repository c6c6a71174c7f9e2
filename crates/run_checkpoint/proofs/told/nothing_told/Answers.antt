use Rattle.std.proofs.Common.{refl}
use Rattle.run_checkpoint.proofs.EntriesSteps.{same_pushed}
use Rattle.run_checkpoint.proofs.told.nothing_told.Goals as goal

pub stations-preserved : goal.stations-preserved
stations-preserved c =
    record {
      captures = same_pushed _ _ _ _ c.stations._k c.in_ok-push.ensures.items c.new.ensures c.stations.invariant.captures;
      ended = same_pushed _ _ _ _ c.stations._k c.in_ok-push-2.ensures.items refl c.stations.invariant.ended;
    }
