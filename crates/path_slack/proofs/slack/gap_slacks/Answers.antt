use Rattle.std.proofs.Common.{arith}
use Rattle.path_slack.proofs.GapsInOrder.{gaps_all}
use Rattle.path_slack.proofs.slack.gap_slacks.Goals as goal

pub returns-clause-gaps : goal.returns-clause-gaps
returns-clause-gaps c = gaps_all c.args.layout.now c.requires.sound c.loop-segment.segment c.loop-segment.gaps (omega arith) c.loop-segment.invariant.gaps
