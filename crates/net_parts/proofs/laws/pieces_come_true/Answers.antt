use Rattle.net_parts.proofs.CalmPieces.{pieces_come_true}
use Rattle.net_parts.proofs.laws.pieces_come_true.Goals as goal

pub returns : goal.returns
returns c = pieces_come_true
