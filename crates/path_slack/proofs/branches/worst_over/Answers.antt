use Rattle.std.proofs.Common.{subst, sym, get_or, ◌-◌, arith}
use Rattle.layout.specs.declared.ways.Attachment.TheVariants.{Station}
use Rattle.std.proofs.Common.{None}
use Rattle.path_slack.specs.declared.branches.Branch.{Branch}
use Rattle.path_slack.specs.Branches.{AreBranchesOf}
use Rattle.path_slack.proofs.SidesOfGaps.{Below, Above, side_none, below_more, below_skip, above_more, above_skip, branch_fits, at_fits, below_low, above_low, worst_over_gap}
use Rattle.path_slack.proofs.branches.worst_over.Goals as goal

abbrev nowhere : Branch
nowhere = record { tap = Station 0; far = None }

pub loop-branch-init : goal.loop-branch-init
loop-branch-init c = record { below = side_none c.args.layout.now (Below c.args.layout.now c.args.high); above = side_none c.args.layout.now (Above c.args.layout.now c.args.high) }

pub lengthened-requires : goal.lengthened-requires
lengthened-requires c = λ f is.
    let of : AreBranchesOf c.args.layout.now c.args.branches.now.segment c.as_slice-list.result.now = subst (AreBranchesOf c.args.layout.now c.args.branches.now.segment) (sym c.as_slice-list.ensures) c.requires.branches in
    branch_fits c.args.layout.now c.args.branches.now.segment c.args.high c.as_slice-list.result.now c.requires.sound of c.loop-branch.branch-index nowhere (c.args.high - c.at_of-at.result) c.loop-branch-test.true (omega (arith, c.requires.high)) f is

pub loop-branch-preserved-then-at-high : goal.loop-branch-preserved-then-at-high
loop-branch-preserved-then-at-high c =
    let of : AreBranchesOf c.args.layout.now c.args.branches.now.segment c.as_slice-list.result.now = subst (AreBranchesOf c.args.layout.now c.args.branches.now.segment) (sym c.as_slice-list.ensures) c.requires.branches in
    record {
      below = below_more c.args.layout.now c.args.branches.now.segment c.args.high c.as_slice-list.result.now c.requires.sound of c.loop-branch.branch-index nowhere c.at_of-at.result c.loop-branch.below c.lengthened.result c.farther-below.result c.loop-branch-test.true c.at_of-at.ensures c.if-at-high.true c.loop-branch.invariant.below c.lengthened.ensures c.farther-below.ensures;
      above = above_skip c.args.layout.now c.args.branches.now.segment c.args.high c.as_slice-list.result.now c.requires.sound of c.loop-branch.branch-index nowhere c.at_of-at.result c.loop-branch.above c.loop-branch-test.true c.at_of-at.ensures c.if-at-high.true c.loop-branch.invariant.above;
    }

pub lengthened-requires-in-loop-branch : goal.lengthened-requires-in-loop-branch
lengthened-requires-in-loop-branch c = λ f is.
    let of : AreBranchesOf c.args.layout.now c.args.branches.now.segment c.as_slice-list.result.now = subst (AreBranchesOf c.args.layout.now c.args.branches.now.segment) (sym c.as_slice-list.ensures) c.requires.branches in
    branch_fits c.args.layout.now c.args.branches.now.segment c.args.high c.as_slice-list.result.now c.requires.sound of c.loop-branch.branch-index nowhere (c.at_of-at.result - c.args.high) c.loop-branch-test.true (rw c.at_of-at.ensures (omega (arith, at_fits c.args.layout.now c.args.branches.now.segment c.args.high c.as_slice-list.result.now c.requires.sound of (get_or c.as_slice-list.result.now c.loop-branch.branch-index nowhere).tap))) f is

pub loop-branch-preserved : goal.loop-branch-preserved
loop-branch-preserved c =
    let of : AreBranchesOf c.args.layout.now c.args.branches.now.segment c.as_slice-list.result.now = subst (AreBranchesOf c.args.layout.now c.args.branches.now.segment) (sym c.as_slice-list.ensures) c.requires.branches in
    record {
      below = below_skip c.args.layout.now c.args.branches.now.segment c.args.high c.as_slice-list.result.now c.requires.sound of c.loop-branch.branch-index nowhere c.at_of-at.result c.loop-branch.below c.loop-branch-test.true c.at_of-at.ensures c.if-at-high.false c.loop-branch.invariant.below;
      above = above_more c.args.layout.now c.args.branches.now.segment c.args.high c.as_slice-list.result.now c.requires.sound of c.loop-branch.branch-index nowhere c.at_of-at.result c.loop-branch.above c.lengthened-in-loop-branch.result c.farther-above.result c.loop-branch-test.true c.at_of-at.ensures c.if-at-high.false c.loop-branch.invariant.above c.lengthened-in-loop-branch.ensures c.farther-above.ensures;
    }

pub pair_over-requires-clause-near : goal.pair_over-requires-clause-near
pair_over-requires-clause-near c = λ r is.
    let of : AreBranchesOf c.args.layout.now c.args.branches.now.segment c.as_slice-list.result.now = subst (AreBranchesOf c.args.layout.now c.args.branches.now.segment) (sym c.as_slice-list.ensures) c.requires.branches in
    below_low c.args.layout.now c.args.branches.now.segment c.args.high c.as_slice-list.result.now c.requires.sound of c.requires.high _ c.loop-branch.below c.loop-branch.invariant.below r is

pub pair_over-requires-clause-far : goal.pair_over-requires-clause-far
pair_over-requires-clause-far c = λ r is.
    let of : AreBranchesOf c.args.layout.now c.args.branches.now.segment c.as_slice-list.result.now = subst (AreBranchesOf c.args.layout.now c.args.branches.now.segment) (sym c.as_slice-list.ensures) c.requires.branches in
    above_low c.args.layout.now c.args.branches.now.segment c.args.high c.as_slice-list.result.now c.requires.sound of _ c.loop-branch.above c.loop-branch.invariant.above r is

pub returns : goal.returns
returns c =
    let of : AreBranchesOf c.args.layout.now c.args.branches.now.segment c.as_slice-list.result.now = subst (AreBranchesOf c.args.layout.now c.args.branches.now.segment) (sym c.as_slice-list.ensures) c.requires.branches in
    worst_over_gap c.args.layout.now c.args.branches.now.segment c.args.high c.as_slice-list.result.now c.requires.sound of c.loop-branch.branch-index c.loop-branch.below c.loop-branch.above c.pair_over.result c.loop-branch-test.false c.loop-branch.invariant.below c.loop-branch.invariant.above c.pair_over.ensures
