use Rattle.network.proofs.AbsoluteTimes.{emitted_before_is, decided_before_is}
use Rattle.network.proofs.laws.history_is_time.Goals as goal

pub returns-clause-emitted : goal.returns-clause-emitted
returns-clause-emitted c = emitted_before_is

pub returns-clause-decided : goal.returns-clause-decided
returns-clause-decided c = decided_before_is
