use Rattle.std.proofs.Common.{ap, ◌∙◌}
use Rattle.mac_transmit.specs.Calm.{up_to_most}
use Rattle.mac_transmit.proofs.CalmHalfBits.{calm_is}
use Rattle.mac_transmit.proofs.transmitter.Transmitter.calm.Goals as goal

pub returns-clause-exact : goal.returns-clause-exact
returns-clause-exact c = calm_is c.args.self.now c.args.carrier c.at_most.result c.change.ensures.valid (c.at_most.ensures.number ∙ ap up_to_most c.change.ensures.change)
