use Rattle.layout.proofs.WalksOverEdges.{paths_follow_edges}
use Rattle.layout.proofs.laws.paths_follow_edges.Goals as goal

pub returns : goal.returns
returns c = paths_follow_edges
