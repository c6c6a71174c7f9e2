use Rattle.std.proofs.Common.{◌≡◌, ◌+◌, ◌-◌, ◌/◌, ◌++◌, suc, ap, ◌∙◌, arith}
use Rattle.network.specs.Rows.{rows_of_bodies, bits_bodies}
use Rattle.network.proofs.PortFlags.{rows_more}
use Rattle.repeater_engine.proofs.LoggedPorts.{bits_split}
use Rattle.repeater_engine.proofs.rows.log_ports.Goals as goal

pub loop-port-preserved : goal.loop-port-preserved
loop-port-preserved c =
    let e = c.loop-port.left in
    let port = c.loop-port.port in
    let n = c.args.ports - (port + 1) in
    let left : c.args.ports - port ≡ suc n = omega arith in
    let now = c.behind_first-left.ensures in
    let more = bits_split (port + 1) (c.args.ports - port) n e.closed e.opened e.halted c.behind_first-left.result.closed c.behind_first-left.result.opened c.behind_first-left.result.halted left now.closed now.opened now.halted in
    record {
      rows =
          ap (λ m. c.log_port.new.log.rows ++ rows_of_bodies c.args.t c.args.device (bits_bodies (port + 1 + 1) n m c.behind_first-left.result.opened c.behind_first-left.result.halted)) now.closed
          ∙ ap (λ m. c.log_port.new.log.rows ++ rows_of_bodies c.args.t c.args.device (bits_bodies (port + 1 + 1) n (e.closed / 2) m c.behind_first-left.result.halted)) now.opened
          ∙ ap (λ m. c.log_port.new.log.rows ++ rows_of_bodies c.args.t c.args.device (bits_bodies (port + 1 + 1) n (e.closed / 2) (e.opened / 2) m)) now.halted
          ∙ rows_more c.args.t c.args.device (port + 1) (c.args.ports - port) n e.closed e.opened e.halted c.loop-port.log.rows c.log_port.new.log.rows left c.log_port.ensures.rows
          ∙ c.loop-port.invariant.rows;
      captures = c.log_port.ensures.captures ∙ c.loop-port.invariant.captures;
      room = omega (arith, more, c.log_port.ensures.room, c.loop-port.invariant.room);
    }
