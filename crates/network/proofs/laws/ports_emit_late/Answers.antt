use Rattle.network.proofs.AbsoluteTimes.{port_emits}
use Rattle.network.proofs.laws.ports_emit_late.Goals as goal

pub returns : goal.returns
returns c = port_emits
