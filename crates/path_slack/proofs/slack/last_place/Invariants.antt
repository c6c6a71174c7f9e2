use Rattle.std.proofs.Common.{take}
use Rattle.path_slack.proofs.PlacesOfTaps.{IsLastOf}
use Rattle.path_slack.proofs.slack.last_place.Given as goal

abbrev pub invariant-loop-branch : goal.invariant-loop-branch
invariant-loop-branch l = IsLastOf l.layout (take l.branch-index l.list) l.last
