use Rattle.path_checker.proofs.OverlapsAreHit.{late_start}
use Rattle.path_checker.proofs.NetworkLaws.{carries, repeats, lawful}
use Rattle.path_checker.proofs.laws.late_start.Goals as goal

pub returns : goal.returns
returns c = late_start carries repeats lawful
