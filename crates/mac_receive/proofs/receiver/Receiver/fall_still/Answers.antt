use Rattle.std.proofs.Common.{◌≡◌, ◌+◌, ◌≤◌, ap, arith}
use Rattle.mac_parameters.specs.Parameters.{most_half_bits}
use Rattle.mac_receive.proofs.StepsKeepMeaning.{new_receiver}
use Rattle.mac_receive.proofs.receiver.Receiver.fall_still.Goals as goal

pub invariant_of-self : goal.invariant_of-self
invariant_of-self c =
    let before = c.self.invariant in
    let same : c.self.inside.steps ≡ c.args.self.now.steps = ap (λ k. k.steps) c.self.view_is in
    let steps : c.self.inside.steps + c.args.n ≤ most_half_bits = omega (arith, same, c.requires) in
    (before.0, before.1, omega arith, omega (arith, before.3), steps, new_receiver c.self.inside.lose c.self.inside.most c.args.deaf c.self.inside.decoder _)
