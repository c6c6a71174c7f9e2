use Rattle.layout.proofs.SoundTaps.{sound_one_path}
use Rattle.layout.proofs.laws.one_path.Goals as goal

pub returns : goal.returns
returns c = sound_one_path
