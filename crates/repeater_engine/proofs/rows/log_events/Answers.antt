use Rattle.std.proofs.Common.{length-append, arith}
use Rattle.collision_log.specs.declared.row.Body.TheVariants.{Clash}
use Rattle.network.specs.Rows.{bits_bodies, happened}
use Rattle.network.proofs.PortFlags.{rows_none}
use Rattle.repeater_engine.proofs.rows.log_events.Goals as goal

pub returns-then-events-eq0-3 : goal.returns-then-events-eq0-3
returns-then-events-eq0-3 c =
    let e = c.args.events in
    let more = length-append (happened e.clash Clash) (bits_bodies 1 c.args.ports e.closed e.opened e.halted) in
    record {
      rows = rows_none c.args.t c.args.device c.args.ports e c.args.log.now.rows c.push_if.new.log.rows c.if-events-eq0.true c.if-events-eq0-2.true c.if-events-eq0-3.true c.push_if.ensures.rows;
      captures = c.push_if.ensures.captures;
      room = omega (arith, more, c.push_if.ensures.room);
    }
