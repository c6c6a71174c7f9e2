use Rattle.std.proofs.Common.{rules}
use Rattle.frame_layout.proofs.Table.{table_at}
use Rattle.frame_layout.proofs.check_sequence.eight_steps.Goals as goal

pub returns : goal.returns
returns c = rw c.from.ensures (table_at c.args.octet (search rules))
