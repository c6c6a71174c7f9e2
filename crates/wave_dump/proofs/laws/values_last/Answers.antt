use Rattle.wave_dump.proofs.RisingTimes.{values_last}
use Rattle.wave_dump.proofs.laws.values_last.Goals as goal

pub returns : goal.returns
returns c = values_last
