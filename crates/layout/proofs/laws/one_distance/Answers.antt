use Rattle.layout.proofs.SoundTaps.{sound_one_distance}
use Rattle.layout.proofs.laws.one_distance.Goals as goal

pub returns : goal.returns
returns c = sound_one_distance
