use Rattle.repeater_core.proofs.Lawful.{signals}
use Rattle.repeater_core.proofs.laws.signals_are_repeated.Goals as goal

pub returns : goal.returns
returns c = signals
