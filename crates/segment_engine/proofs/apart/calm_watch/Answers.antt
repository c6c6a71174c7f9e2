use Rattle.std.proofs.Common.{◌≡◌, ◌+◌, ◌-◌, subst, arith}
use Rattle.segment_engine.specs.SteadyPieces.{IsCalmAs}
use Rattle.segment_engine.proofs.apart.calm_watch.Goals as goal

pub returns-clause-calm : goal.returns-clause-calm
returns-clause-calm c =
    let n = c.before_change-calm.result in
    let left : n ≡ c.args.u + n - c.args.u = omega arith in
    subst (λ m. IsCalmAs m c.args.carrier c.args.sender.now) left c.before_change-calm.ensures.calm

pub returns-clause-longest : goal.returns-clause-longest
returns-clause-longest c = λ n few calm. let most = c.before_change-calm.ensures.greatest n few calm in omega (arith, most)
