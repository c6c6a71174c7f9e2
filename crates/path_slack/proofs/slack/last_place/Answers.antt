use Rattle.std.proofs.Common.{subst, sym, None}
use Rattle.layout.specs.declared.ways.Attachment.TheVariants.{Station}
use Rattle.path_slack.specs.declared.branches.Branch.{Branch}
use Rattle.path_slack.specs.Branches.{AreBranchesOf}
use Rattle.path_slack.proofs.PlacesOfTaps.{last_skip, last_more, last_all}
use Rattle.path_slack.proofs.slack.last_place.Goals as goal

abbrev nowhere : Branch
nowhere = record { tap = Station 0; far = None }

pub loop-branch-preserved-then-at-last : goal.loop-branch-preserved-then-at-last
loop-branch-preserved-then-at-last c =
    last_skip c.args.layout.now c.as_slice-list.result.now c.loop-branch.branch-index nowhere c.loop-branch-test.true c.at_of-at.result c.loop-branch.last c.at_of-at.ensures c.if-at-last.true c.loop-branch.invariant

pub loop-branch-preserved : goal.loop-branch-preserved
loop-branch-preserved c =
    last_more c.args.layout.now c.as_slice-list.result.now c.loop-branch.branch-index nowhere c.loop-branch-test.true c.at_of-at.result c.loop-branch.last c.at_of-at.ensures c.if-at-last.false c.loop-branch.invariant

pub returns : goal.returns
returns c =
    last_all c.args.layout.now c.args.branches.now.segment c.as_slice-list.result.now c.loop-branch.branch-index c.loop-branch.last (subst (AreBranchesOf c.args.layout.now c.args.branches.now.segment) (sym c.as_slice-list.ensures) c.requires) c.loop-branch-test.false c.loop-branch.invariant
