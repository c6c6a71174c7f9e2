use Rattle.network.proofs.PortFlags.{rows_none}
use Rattle.net_step.proofs.rows.log_repeater.Goals as goal

pub returns-then-events-eq0-3 : goal.returns-then-events-eq0-3
returns-then-events-eq0-3 c =
    rows_none c.args.t c.args.device c.args.ports c.args.events c.args.rows.now c.push_if.new.rows c.if-events-eq0.true c.if-events-eq0-2.true c.if-events-eq0-3.true c.in_ok-push_if.ensures
