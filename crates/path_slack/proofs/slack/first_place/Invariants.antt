use Rattle.std.proofs.Common.{take}
use Rattle.path_slack.proofs.PlacesOfTaps.{IsFirstOf}
use Rattle.path_slack.proofs.slack.first_place.Given as goal

abbrev pub invariant-loop-branch : goal.invariant-loop-branch
invariant-loop-branch l = IsFirstOf l.layout l.from (take l.branch-index l.list) l.first
