use Rattle.net_parts.proofs.GatheredCaptures.{captures_are_gathered}
use Rattle.net_parts.proofs.laws.captures_are_gathered.Goals as goal

pub returns : goal.returns
returns c = captures_are_gathered
