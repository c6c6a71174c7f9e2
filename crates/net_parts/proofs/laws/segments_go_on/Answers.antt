use Rattle.net_parts.proofs.SegmentSteps.{segments_go_on}
use Rattle.net_parts.proofs.laws.segments_go_on.Goals as goal

pub returns : goal.returns
returns c = segments_go_on
