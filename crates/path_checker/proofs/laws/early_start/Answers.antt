use Rattle.path_checker.proofs.OverlapsAreHit.{early_start}
use Rattle.path_checker.proofs.NetworkLaws.{carries, repeats, lawful}
use Rattle.path_checker.proofs.laws.early_start.Goals as goal

pub returns : goal.returns
returns c = early_start carries repeats lawful
