use Rattle.std.proofs.Common.{◌≡◌, ◌+◌, ◌≤◌, ◌∙◌, false, take, length, replicate, ap, sym, arith}
use Rattle.manchester_line.specs.declared.Sym.TheVariants.{Idle}
use Rattle.mac_receive.specs.KeptReceiver.{KeptReception}
use Rattle.reception_laws.proofs.LateReceptions.{goes_on, late_halves, late_steps, unread_length, unread_rest}
use Rattle.reception_laws.proofs.late.LateReceiver.leap_quiet.Goals as goal

pub invariant_of-self : goal.invariant_of-self
invariant_of-self c =
    let x = c.self.inside in
    let before = c.self.invariant in
    let k = x.receiver in
    let text = take x.unread x.text.items in
    let rest = unread_rest k x.text.items x.unread before.7 in
    let halves : k.halves + length text ≡ c.args.self.now.halves = sym (late_halves k text rest) ∙ ap (λ (y : KeptReception). y.halves) c.self.view_is in
    let none = c.requires.none in
    let size = unread_length x.text.items x.unread _ before.0 before.1 in
    let steps : k.steps + length text ≡ c.args.self.now.steps = sym (late_steps k text) ∙ ap (λ (y : KeptReception). y.steps) c.self.view_is in
    let more = c.leap_quiet.ensures.steps in
    let fits = c.requires.steps in
    let on = goes_on (replicate c.args.n Idle) false k c.leap_quiet.new.self before.6 (λ r h. c.leap_quiet.ensures.state r h) in (
      before.0,
      before.1,
      on.0 ∙ before.2,
      on.1 ∙ before.3,
      before.4,
      before.5,
      on.2,
      λ p. absurd (omega (arith, p, halves, none, size)),
      before.8,
      omega (arith, steps, more, fits, size),
    )
