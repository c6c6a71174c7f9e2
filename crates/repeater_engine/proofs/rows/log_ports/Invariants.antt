use Rattle.std.proofs.Common.{◌≡◌, ◌+◌, ◌-◌, ◌≤◌, ◌++◌, length}
use Rattle.network.specs.Rows.{rows_of_bodies, bits_bodies}
use Rattle.repeater_engine.proofs.rows.log_ports.Given as goal

-- the rows of the ports below this one are there, and there is room for the rest
abbrev pub invariant-loop-port : goal.invariant-loop-port
invariant-loop-port l = record {
  rows : l.log.rows ++ rows_of_bodies l.t l.device (bits_bodies (l.port + 1) (l.ports - l.port) l.left.closed l.left.opened l.left.halted)
      ≡ l.fn.log.rows ++ rows_of_bodies l.t l.device (bits_bodies 1 l.ports l.fn.events.closed l.fn.events.opened l.fn.events.halted);
  captures : l.log.captures ≡ l.fn.log.captures;
  room : l.fn.log.row_room + length (bits_bodies (l.port + 1) (l.ports - l.port) l.left.closed l.left.opened l.left.halted)
      ≤ l.log.row_room + length (bits_bodies 1 l.ports l.fn.events.closed l.fn.events.opened l.fn.events.halted);
}
