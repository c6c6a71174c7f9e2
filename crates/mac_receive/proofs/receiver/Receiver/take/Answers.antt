use Rattle.std.proofs.Common.{◌≡◌, ◌+◌, ◌≤◌, ◌∙◌, length, sym, ap, refl, arith}
use Rattle.mac_parameters.specs.Parameters.{most_half_bits}
use Rattle.mac_receive.specs.Receiver.{receiver_after}
use Rattle.mac_receive.proofs.LeapsAreSteps.{to_hears, same_kept, took, bodies_take}
use Rattle.mac_receive.proofs.receiver.Receiver.take.Goals as goal

pub invariant_of-self : goal.invariant_of-self
invariant_of-self c =
    let before = c.self.invariant in
    let awake : c.self.inside.deaf ≡ _ = ap (λ k. k.deaf) c.self.view_is ∙ c.requires.awake in
    let same : c.self.inside.steps ≡ c.args.self.now.steps = ap (λ k. k.steps) c.self.view_is in
    let steps : c.self.inside.steps + length c.args.piece.now ≤ most_half_bits = omega (arith, same, c.requires.steps) in
    let one = before.5 in (
      before.0,
      before.1,
      omega (arith, before.2),
      omega (arith, before.3, c.hear_all.ensures.few),
      steps,
      (receiver_after one.0 c.args.piece.now _, took c.args.piece.now one.0 _ _ awake c.requires.signal (same_kept _ _ _ _ _ _ _ _ _ _ awake refl c.hear_all.ensures.heard refl) one.1),
    )

pub returns-clause-state : goal.returns-clause-state
returns-clause-state c = λ r h.
    let awake : c.self.inside.deaf ≡ _ = ap (λ k. k.deaf) c.self.view_is ∙ c.requires.awake in
    took c.args.piece.now r _ _ awake c.requires.signal
    (same_kept _ _ _ _ _ _ _ _ _ _ awake refl c.hear_all.ensures.heard refl)
    (to_hears r _ _ (sym c.self.view_is) h)

pub returns-clause-bodies : goal.returns-clause-bodies
returns-clause-bodies c = λ r h. bodies_take c.args.piece.now r c.requires.signal
