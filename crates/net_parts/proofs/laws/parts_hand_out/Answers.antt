use Rattle.net_parts.proofs.RowsHandedOut.{parts_hand_out}
use Rattle.net_parts.proofs.laws.parts_hand_out.Goals as goal

pub returns : goal.returns
returns c = parts_hand_out
