use Rattle.layout.proofs.Joins.{colours_tell_paths}
use Rattle.layout.proofs.laws.colours_tell_paths.Goals as goal

pub returns : goal.returns
returns c = colours_tell_paths
