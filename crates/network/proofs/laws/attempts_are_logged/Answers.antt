use Rattle.network.proofs.LoggedAttempts.{attempts_logged}
use Rattle.network.proofs.laws.attempts_are_logged.Goals as goal

pub returns : goal.returns
returns c = attempts_logged
