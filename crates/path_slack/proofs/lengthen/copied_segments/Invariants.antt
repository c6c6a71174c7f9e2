use Rattle.std.proofs.Common.{◌≡◌, ◌++◌, drop}
use Rattle.path_slack.proofs.lengthen.copied_segments.Given as goal

abbrev pub invariant-loop-segment : goal.invariant-loop-segment
invariant-loop-segment l = l.segments ≡ l.copy ++ drop l.segment-index l.segments
