use Rattle.std.proofs.Common.{◌≡◌, ◌+◌, ◌≤◌, ◌∙◌, sym, ap, arith}
use Rattle.mac_parameters.specs.Parameters.{most_half_bits}
use Rattle.mac_receive.proofs.LeapsAreSteps.{to_hears, leapt_deaf, bodies_take}
use Rattle.mac_receive.proofs.StepsKeepMeaning.{same_receiver}
use Rattle.mac_receive.proofs.receiver.Receiver.leap_deaf.Goals as goal

pub invariant_of-self : goal.invariant_of-self
invariant_of-self c =
    let before = c.self.invariant in
    let same : c.self.inside.steps ≡ c.args.self.now.steps = ap (λ k. k.steps) c.self.view_is in
    let steps : c.self.inside.steps + c.args.n ≤ most_half_bits = omega (arith, same, c.requires.steps) in
    (before.0, before.1, omega (arith, before.2), omega (arith, before.3), steps, same_receiver _ _ _ before.5)

pub returns-clause-state : goal.returns-clause-state
returns-clause-state c = λ r hs all len h.
    leapt_deaf hs r _ _ (ap (λ k. k.deaf) c.self.view_is ∙ c.requires.deaf) all (to_hears r _ _ (sym c.self.view_is) h)

pub returns-clause-bodies : goal.returns-clause-bodies
returns-clause-bodies c = λ r hs all. bodies_take hs r all
