use Rattle.net_parts.proofs.GatheredRows.{rows_are_gathered}
use Rattle.net_parts.proofs.laws.rows_are_gathered.Goals as goal

pub returns : goal.returns
returns c = rows_are_gathered
