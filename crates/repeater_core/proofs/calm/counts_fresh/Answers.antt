use Rattle.std.proofs.Common.{◌≡◌, ◌<◌, ◌≤◌, length, subst, arith}
use Rattle.std.proofs.lemmas.List.{take_all}
use Rattle.std.proofs.lemmas.List.Elements.{All-more}
use Rattle.std.proofs.lemmas.Grind.{common_steps}
use Rattle.std.specs.List.{All}
use Rattle.repeater_core.specs.Counts.{resting_count}
use Rattle.repeater_core.proofs.calm.counts_fresh.Goals as goal

pub loop-count-preserved : goal.loop-count-preserved
loop-count-preserved c =
    let within : c.loop-count.count-index < length c.args.counts.now = omega arith in
    All-more (λ c. c ≡ resting_count 0) c.args.counts.now c.loop-count.count-index (resting_count 0) within c.loop-count.invariant (grind (arith, common_steps))

pub returns : goal.returns
returns c = λ _.
    let all : length c.args.counts.now ≤ c.loop-count.count-index = omega arith in
    subst (All (λ c. c ≡ resting_count 0)) (take_all c.loop-count.count-index c.args.counts.now all) c.loop-count.invariant
