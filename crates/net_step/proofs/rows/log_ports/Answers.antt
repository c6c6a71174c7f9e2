use Rattle.std.proofs.Common.{◌≡◌, ◌+◌, ◌-◌, ◌/◌, ◌++◌, suc, ap, ◌∙◌, arith}
use Rattle.network.specs.Rows.{rows_of_bodies, bits_bodies}
use Rattle.network.proofs.PortFlags.{rows_more}
use Rattle.net_step.proofs.rows.log_ports.Goals as goal

pub loop-port-preserved : goal.loop-port-preserved
loop-port-preserved c =
    let e = c.loop-port.left in
    let n = c.args.ports - (c.loop-port.port + 1) in
    let left : c.args.ports - c.loop-port.port ≡ suc n = omega arith in
    let now = c.behind_first-left.ensures in
    ap (λ m. c.log_port.new.rows ++ rows_of_bodies c.args.t c.args.device (bits_bodies (c.loop-port.port + 1 + 1) n m c.behind_first-left.result.opened c.behind_first-left.result.halted)) now.closed
    ∙ ap (λ m. c.log_port.new.rows ++ rows_of_bodies c.args.t c.args.device (bits_bodies (c.loop-port.port + 1 + 1) n (e.closed / 2) m c.behind_first-left.result.halted)) now.opened
    ∙ ap (λ m. c.log_port.new.rows ++ rows_of_bodies c.args.t c.args.device (bits_bodies (c.loop-port.port + 1 + 1) n (e.closed / 2) (e.opened / 2) m)) now.halted
    ∙ rows_more c.args.t c.args.device (c.loop-port.port + 1) (c.args.ports - c.loop-port.port) n e.closed e.opened e.halted c.loop-port.rows c.log_port.new.rows left c.in_ok-log_port.ensures
    ∙ c.loop-port.invariant
