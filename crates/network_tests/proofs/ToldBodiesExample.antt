-- An example of what is logged of one half bit of a repeater with two ports: the collision, and then port by port, at
-- each a halt before a partition or a reconnection.
use Rattle.std.proofs.Common.{◌≡◌, [], ◌∷◌, true, refl}
use Rattle.collision_log.specs.declared.row.Body.TheVariants.{Clash, Closed, Opened, Halted}
use Rattle.network.specs.Rows.{told_bodies}

pub port_by_port : told_bodies 2 (record { clash = true; closed = 2; opened = 1; halted = 3 }) ≡ Clash ∷ Halted 1 ∷ Opened 1 ∷ Halted 2 ∷ Closed 2 ∷ []
port_by_port = refl
