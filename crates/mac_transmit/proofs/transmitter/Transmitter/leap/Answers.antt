use Rattle.mac_transmit.specs.Calm.{change_in}
use Rattle.mac_transmit.proofs.CalmHalfBits.{uncapped}
use Rattle.mac_transmit.proofs.transmitter.Transmitter.leap.Goals as goal

pub pass-requires-clause-calm : goal.pass-requires-clause-calm
pass-requires-clause-calm c = uncapped c.args.n (change_in c.args.self.now c.args.carrier) c.requires.calm
