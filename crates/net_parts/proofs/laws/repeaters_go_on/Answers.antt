use Rattle.net_parts.proofs.RepeaterSteps.{repeaters_go_on}
use Rattle.net_parts.proofs.laws.repeaters_go_on.Goals as goal

pub returns : goal.returns
returns c = repeaters_go_on
