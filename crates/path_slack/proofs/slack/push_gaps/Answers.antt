use Rattle.std.proofs.Common.{◌+◌, ◌≤◌, sym, subst, refl, All, arith}
use Rattle.std.proofs.lemmas.List.Elements.{All-push}
use Rattle.mac_parameters.specs.Parameters.{greatest_place}
use Rattle.path_slack.specs.declared.slack.GapSlack.{GapSlack}
use Rattle.path_slack.specs.Slacks.{AreGapsBelow, IsGapSlack}
use Rattle.path_slack.proofs.GapsInOrder.{gaps_begin, gaps_more, gaps_end}
use Rattle.path_slack.proofs.PlacesOfTaps.{tap_low}
use Rattle.path_slack.proofs.slack.push_gaps.Goals as goal

pub returns-in_default-clause-gaps : goal.returns-in_default-clause-gaps
returns-in_default-clause-gaps c = gaps_end c.args.layout.now c.args.branches.now.segment 0 c.args.gaps.now c.requires.gaps c.in_default.ensures

pub loop-high-init : goal.loop-high-init
loop-high-init c = record {
  gaps = gaps_begin c.args.layout.now c.args.branches.now.segment c.in-Some.first c.args.gaps.now c.requires.gaps c.in-Some.ensures;
  slacks = c.requires.slacks;
  has = c.in-Some.ensures.0;
  most = tap_low c.args.layout.now c.requires.sound c.args.branches.now.segment c.in-Some.first c.in-Some.ensures.0;
}

pub loop-high-smaller : goal.loop-high-smaller
loop-high-smaller c =
    let most : c.in-Some-first_place.high ≤ greatest_place = tap_low c.args.layout.now c.requires.sound c.args.branches.now.segment c.in-Some-first_place.high c.in-Some-first_place.ensures.0 in
    let over : c.loop-high.low + 1 ≤ c.in-Some-first_place.high = c.in-Some-first_place.ensures.1 in
    omega arith

pub loop-high-preserved : goal.loop-high-preserved
loop-high-preserved c =
    let entry : GapSlack = record { segment = c.args.branches.now.segment; low = c.loop-high.low; high = c.in-Some-first_place.high; slack = c.gap_slack.result } in
    record {
      gaps = subst (AreGapsBelow c.args.layout.now c.args.branches.now.segment (c.in-Some-first_place.high + 1)) (sym c.in_ok-push.ensures.ok)
          (gaps_more c.args.layout.now c.args.branches.now.segment c.loop-high.low c.in-Some-first_place.high c.loop-high.gaps entry c.loop-high.invariant.has c.in-Some-first_place.ensures c.loop-high.invariant.gaps (refl, refl, refl));
      slacks = subst (All (IsGapSlack c.args.layout.now)) (sym c.in_ok-push.ensures.ok)
          (All-push (IsGapSlack c.args.layout.now) c.loop-high.gaps entry c.loop-high.invariant.slacks c.gap_slack.ensures);
      has = c.in-Some-first_place.ensures.0;
      most = tap_low c.args.layout.now c.requires.sound c.args.branches.now.segment c.in-Some-first_place.high c.in-Some-first_place.ensures.0;
    }

pub returns-clause-gaps : goal.returns-clause-gaps
returns-clause-gaps c = gaps_end c.args.layout.now c.args.branches.now.segment (c.loop-high.low + 1) c.loop-high.gaps c.loop-high.invariant.gaps c.in_default-first_place.ensures
