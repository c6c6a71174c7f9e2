use Rattle.mac_transmit.proofs.CalmHalfBits.{over_is}
use Rattle.mac_transmit.proofs.transmitter.Transmitter.next_change.Goals as goal

pub returns-clause-exact : goal.returns-clause-exact
returns-clause-exact c = over_is c.args.self.now c.args.carrier c.change.result c.change.ensures.valid c.change.ensures.change
