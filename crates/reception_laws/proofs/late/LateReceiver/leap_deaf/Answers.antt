use Rattle.std.proofs.Common.{◌≡◌, ◌+◌, ◌≤◌, ◌∙◌, false, true, take, length, replicate, ap, sym, arith}
use Rattle.std.proofs.lemmas.List.{length-replicate}
use Rattle.manchester_line.specs.declared.Sym.TheVariants.{Hi}
use Rattle.mac_parameters.specs.Parameters.{most_half_bits}
use Rattle.mac_receive.specs.KeptReceiver.{KeptReception}
use Rattle.reception_laws.proofs.LateReceptions.{goes_on, hi_all, late_deaf, late_steps, unread_deaf, unread_rest}
use Rattle.reception_laws.proofs.late.LateReceiver.leap_deaf.Goals as goal

pub invariant_of-self : goal.invariant_of-self
invariant_of-self c =
    let x = c.self.inside in
    let before = c.self.invariant in
    let k = x.receiver in
    let text = take x.unread x.text.items in
    let n = c.args.n in
    let rest = unread_rest k x.text.items x.unread before.7 in
    let deaf : k.deaf ≡ true = sym (late_deaf k text rest) ∙ ap (λ (y : KeptReception). y.deaf) c.self.view_is ∙ c.requires.deaf in
    let none = unread_deaf k x.unread before.7 deaf in
    let steps : k.steps + length text ≡ c.args.self.now.steps = sym (late_steps k text) ∙ ap (λ (y : KeptReception). y.steps) c.self.view_is in
    let more = c.leap_deaf.ensures.steps in
    let fits = c.requires.steps in
    let on = goes_on (replicate n Hi) false k c.leap_deaf.new.self before.6 (λ r h. c.leap_deaf.ensures.state r (replicate n Hi) (hi_all n) (length-replicate n Hi) h) in (
      before.0,
      before.1,
      on.0 ∙ before.2,
      on.1 ∙ before.3,
      before.4,
      before.5,
      on.2,
      λ p. absurd (omega (arith, p, none)),
      before.8,
      omega (arith, steps, more, fits, none),
    )
