use Rattle.std.proofs.Common.{◌≡◌, map, All}
use Rattle.layout.specs.Joined.{counted_up}
use Rattle.path_slack.specs.declared.slack.DelaySlack.{DelaySlack}
use Rattle.path_checker.specs.Far.{IsRight}
use Rattle.path_slack.specs.Slacks.{IsDelaySlack}
use Rattle.path_slack.proofs.slack.delay_slacks.Given as goal

abbrev pub invariant-loop-k : goal.invariant-loop-k
invariant-loop-k l = record {
  repeaters : map (λ (d : DelaySlack). d.repeater) l.delays ≡ counted_up l.k;
  table : IsRight l.layout l.table;
  slacks : All (IsDelaySlack l.layout) l.delays;
}
