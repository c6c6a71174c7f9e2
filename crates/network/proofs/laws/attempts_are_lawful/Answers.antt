use Rattle.mac_transmit.proofs.LawfulAttempts.{attempts_are_lawful}
use Rattle.network.proofs.StationAttempts.{attempts_lawful}
use Rattle.network.proofs.laws.attempts_are_lawful.Goals as goal

pub returns : goal.returns
returns c = attempts_lawful attempts_are_lawful
