use Rattle.std.proofs.Common.{ap, ◌<◌, sym, ◌∙◌, subst}
use Rattle.mac_parameters.specs.Parameters.{most_half_bits}
use Rattle.mac_transmit.specs.Sender.{Sender, phase_after}
use Rattle.mac_transmit.proofs.SenderInvariant.{goes_on}
use Rattle.mac_transmit.proofs.NoClashIsSent.{emitted_clear}
use Rattle.mac_transmit.proofs.transmitter.Transmitter.go_on.Goals as goal

pub invariant_of-self : goal.invariant_of-self
invariant_of-self c =
    let q = c.self.inside in
    let s : Sender = record { queue = q.queue; draws = q.draws; t = q.t; place = q.place; phase = q.phase; defer = q.defer; attempt = q.attempt; last_end = q.last_end; carrier_from = q.carrier_from } in
    let early : q.t < most_half_bits = subst (λ (x : Sender). x.t < most_half_bits) (sym c.self.view_is) c.requires in (
      goes_on s c.args.carrier c.phase_with_hit-self-inside.result c.take_turn-turn.result.defer c.carrier_since-self-inside.result c.self.invariant.0 early
          (c.phase_with_hit-self-inside.ensures ∙ ap (λ p. phase_after q.t p c.args.carrier) c.take_turn-turn.ensures.phase) c.take_turn-turn.ensures.defer c.carrier_since-self-inside.ensures,
      c.self.invariant.1,
    )

pub returns-clause-no_clash : goal.returns-clause-no_clash
returns-clause-no_clash c = λ e. emitted_clear _ _ _ _ (sym c.emission-emitted.ensures ∙ e)
