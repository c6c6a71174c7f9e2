use Rattle.std.proofs.Common.{rules, ◌+◌, arith}
use Rattle.worker_gate.proofs.GatheredParts.{one_more, finished_of, none_yet, start_finished, one_finished, rest_finished}
use Rattle.worker_gate.proofs.gather.gather.Goals as goal

pub loop-k-preserved : goal.loop-k-preserved
loop-k-preserved g c = record {
  made = one_more g.S.Part.plan g.S.Part.number g.S.Part.at c.args.plan.now c.args.first c.loop-k.k c.loop-k.parts.items c.in-Some.part c.push.new.self.items c.loop-k.invariant.made
      (finished_of g.S.Part.plan g.S.Part.number g.S.Part.at g.P.Planned.plan c.args.plan.now (c.args.first + c.loop-k.k) c.in-Some.part c.requires.boxed c.in-Some.ensures.some)
      (search rules);
  rest = λ all. rest_finished g.S.Part.plan g.S.Part.number g.S.Part.at c.args.first c.args.count c.loop-k.k _ _ c.in-Some.part (c.loop-k.invariant.rest all)
      (let test = c.loop-k-test.true in omega (arith, test)) c.in-Some.ensures.left c.in-Some.ensures.some.1;
}

pub loop-k-init : goal.loop-k-init
loop-k-init g c = record {
  made = none_yet g.S.Part.plan g.S.Part.number g.S.Part.at c.args.plan.now c.args.first c.new-parts.result.items c.new-parts.ensures.items;
  rest = start_finished g.S.Part.plan g.S.Part.number g.S.Part.at c.args.first c.args.count _;
}

pub returns-in_default-clause-none : goal.returns-in_default-clause-none
returns-in_default-clause-none g c all =
    c.in_default.ensures.none (one_finished g.S.Part.plan g.S.Part.number g.S.Part.at c.args.first c.args.count c.loop-k.k _ (c.loop-k.invariant.rest all)
    (let test = c.loop-k-test.true in omega (arith, test)))
