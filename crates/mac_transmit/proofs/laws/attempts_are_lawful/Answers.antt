use Rattle.mac_transmit.proofs.LawfulAttempts.{attempts_are_lawful}
use Rattle.mac_transmit.proofs.laws.attempts_are_lawful.Goals as goal

pub returns : goal.returns
returns c = attempts_are_lawful
