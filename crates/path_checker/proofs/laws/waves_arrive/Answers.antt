use Rattle.path_checker.proofs.NetworkLaws.{carries, repeats}
use Rattle.path_checker.proofs.WavesOnWalks.{waves_arrive}
use Rattle.path_checker.proofs.laws.waves_arrive.Goals as goal

pub returns : goal.returns
returns c = waves_arrive carries repeats
