use Rattle.std.proofs.Common.{◌≡◌, ◌+◌, ◌-◌, ◌++◌}
use Rattle.network.specs.Rows.{rows_of_bodies, bits_bodies}
use Rattle.net_step.proofs.rows.log_ports.Given as goal

-- the rows of the ports below this one are there, and the rest are not
abbrev pub invariant-loop-port : goal.invariant-loop-port
invariant-loop-port l =
    l.rows ++ rows_of_bodies l.t l.device (bits_bodies (l.port + 1) (l.ports - l.port) l.left.closed l.left.opened l.left.halted)
    ≡ l.fn.rows ++ rows_of_bodies l.t l.device (bits_bodies 1 l.ports l.fn.events.closed l.fn.events.opened l.fn.events.halted)
