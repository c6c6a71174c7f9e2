use Rattle.net_parts.proofs.PartWindows.{parts_go_on}
use Rattle.net_parts.proofs.laws.parts_go_on.Goals as goal

pub returns : goal.returns
returns c = parts_go_on
