use Rattle.std.proofs.Common.{◌≡◌, ◌<◌, ap, arith}
use Rattle.mac_parameters.specs.Parameters.{most_half_bits}
use Rattle.mac_receive.proofs.StepsKeepMeaning.{more_receiver}
use Rattle.mac_receive.proofs.receiver.Receiver.move_on.Goals as goal

pub invariant_of-self : goal.invariant_of-self
invariant_of-self c =
    let before = c.self.invariant in
    let same : c.self.inside.steps ≡ c.args.self.now.steps = ap (λ k. k.steps) c.self.view_is in
    let steps : c.self.inside.steps < most_half_bits = omega (arith, same, c.requires) in (
      before.0,
      before.1,
      omega (arith, before.2),
      omega (arith, before.3, c.hear.ensures.few),
      omega (arith, steps),
      more_receiver _ c.args.heard c.hear.new.decoder _ c.hear.ensures.heard before.5,
    )
