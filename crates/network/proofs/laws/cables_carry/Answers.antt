use Rattle.network.proofs.SegmentsCarry.{carries}
use Rattle.network.proofs.laws.cables_carry.Goals as goal

pub returns : goal.returns
returns c = carries
