use Rattle.net_step.proofs.ResumedDevices.{one_more}
use Rattle.net_step.proofs.relay.Relay.list_guards.Goals as goal

pub loop-port-preserved : goal.loop-port-preserved
loop-port-preserved c = one_more c.args.guards.now _ _ c.self.inside.repeater.guards c.loop-port.port _ c.loop-port.invariant c.guard.ensures c.in_ok-push.ensures.ok
