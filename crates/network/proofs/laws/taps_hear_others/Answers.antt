use Rattle.network.proofs.AbsoluteTimes.{heard_is}
use Rattle.network.proofs.laws.taps_hear_others.Goals as goal

pub returns : goal.returns
returns c = heard_is
