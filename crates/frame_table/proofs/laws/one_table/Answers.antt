use Rattle.frame_table.proofs.OneTable as table
use Rattle.frame_table.proofs.laws.one_table.Goals as goal

pub returns : goal.returns
returns c = table.one_table
