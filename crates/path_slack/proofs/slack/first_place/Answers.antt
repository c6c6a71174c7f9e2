use Rattle.std.proofs.Common.{subst, sym, None}
use Rattle.layout.specs.declared.ways.Attachment.TheVariants.{Station}
use Rattle.path_slack.specs.declared.branches.Branch.{Branch}
use Rattle.path_slack.specs.Branches.{AreBranchesOf}
use Rattle.path_slack.proofs.PlacesOfTaps.{first_skip, first_more, first_all}
use Rattle.path_slack.proofs.slack.first_place.Goals as goal

abbrev nowhere : Branch
nowhere = record { tap = Station 0; far = None }

pub loop-branch-preserved-then-at-from : goal.loop-branch-preserved-then-at-from
loop-branch-preserved-then-at-from c =
    first_skip c.args.layout.now c.args.from c.as_slice-list.result.now c.loop-branch.branch-index nowhere c.loop-branch-test.true c.at_of-at.result c.loop-branch.first c.at_of-at.ensures c.if-at-from.true c.loop-branch.invariant

pub loop-branch-preserved : goal.loop-branch-preserved
loop-branch-preserved c =
    first_more c.args.layout.now c.args.from c.as_slice-list.result.now c.loop-branch.branch-index nowhere c.loop-branch-test.true c.at_of-at.result c.loop-branch.first c.lower_place-first.result c.at_of-at.ensures c.if-at-from.false c.loop-branch.invariant c.lower_place-first.ensures

pub returns : goal.returns
returns c =
    first_all c.args.layout.now c.args.branches.now.segment c.args.from c.as_slice-list.result.now c.loop-branch.branch-index c.loop-branch.first (subst (AreBranchesOf c.args.layout.now c.args.branches.now.segment) (sym c.as_slice-list.ensures) c.requires) c.loop-branch-test.false c.loop-branch.invariant
