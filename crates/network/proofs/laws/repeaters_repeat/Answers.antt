use Rattle.network.proofs.PortsRepeat.{repeats}
use Rattle.network.proofs.laws.repeaters_repeat.Goals as goal

pub returns : goal.returns
returns c = repeats
