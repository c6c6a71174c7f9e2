use Rattle.std.proofs.Common.{◌≡◌, ◌+◌, ap, sym, subst, ◌∙◌, arith}
use Rattle.std.specs.Prelude.{◌==◌, ◌||◌, if◌then◌else◌}
use Rattle.mac_transmit.specs.Sender.{Sender}
use Rattle.mac_transmit.specs.Calm.{change_in, AreOverBefore}
use Rattle.mac_transmit.proofs.CalmHalfBits.{leap_keeps}
use Rattle.mac_transmit.proofs.transmitter.Transmitter.leap_over.Goals as goal

pub invariant_of-self : goal.invariant_of-self
invariant_of-self c =
    let q = c.self.inside in
    let s : Sender = record { queue = q.queue; draws = q.draws; t = q.t; place = q.place; phase = q.phase; defer = q.defer; attempt = q.attempt; last_end = q.last_end; carrier_from = q.carrier_from } in
    let now : c.args.t ≡ q.t = c.requires.time ∙ sym (ap (λ (x : Sender). x.t) c.self.view_is) in
    let calm : AreOverBefore c.args.n (change_in s c.args.carrier) = subst (λ x. AreOverBefore c.args.n (change_in x c.args.carrier)) (sym c.self.view_is) c.requires.calm in (
      leap_keeps s c.args.carrier c.args.n (c.args.t + c.args.n) c.carrier_leapt-self-inside.result c.defer_leapt-self-inside.result c.self.invariant.0 calm (omega arith) c.requires.in_time
          c.defer_leapt-self-inside.ensures (c.carrier_leapt-self-inside.ensures ∙ ap (λ t. if c.args.carrier || c.args.n == 0 then q.carrier_from else t + c.args.n) now),
      c.self.invariant.1,
    )
