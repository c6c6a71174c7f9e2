use Rattle.std.proofs.Common.{◌∙◌, ◌+◌, ap, drop, inl, map}
use Rattle.run_checkpoint.specs.Judging.{judged_guards}
use Rattle.run_checkpoint.specs.PortNames.{named_port}
use Rattle.run_checkpoint.proofs.SenderSteps.{guard_missing}
use Rattle.run_checkpoint.proofs.states_read.judged_guards.Goals as goal

pub returns-in_default-clause-judged : goal.returns-in_default-clause-judged
returns-in_default-clause-judged c =
    let k = c.ports.k in
    inl (c.ports.invariant.judged
    ∙ (ap (λ ls. judged_guards (c.args.first + k) c.ports.guards c.ports.rests (map named_port (drop k c.args.ports.now)) ls) c.in_default.ensures.none
    ∙ guard_missing (c.args.first + k) c.ports.guards c.ports.rests k c.args.ports.now c.ports-test.true))
