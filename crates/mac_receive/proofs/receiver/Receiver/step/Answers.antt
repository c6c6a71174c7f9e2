use Rattle.std.proofs.Common.{◌∙◌, sym, ap, subst}
use Rattle.mac_receive.specs.Receiver.{receiver_step}
use Rattle.mac_receive.specs.KeptReceiver.{KeptReception, Hears, kept_octets}
use Rattle.mac_receive.proofs.StepsKeepMeaning.{hears_next}
use Rattle.mac_receive.proofs.ReceivedOctets.{octets_kept}
use Rattle.mac_receive.proofs.receiver.Receiver.step.Goals as goal

pub returns-clause-state : goal.returns-clause-state
returns-clause-state c = λ r h.
    let P : KeptReception → Type 0 = λ k. Hears (receiver_step r c.args.heard c.args.sending).state k in
    subst P (sym c.move_on.ensures) (hears_next r c.args.self.now c.args.heard c.args.sending h)

pub returns-clause-octets : goal.returns-clause-octets
returns-clause-octets c = λ r n h is.
    ap kept_octets c.move_on.ensures ∙ octets_kept r c.args.self.now c.args.heard c.args.sending n h c.event-event.ensures.most (sym (c.event-event.ensures.row r h) ∙ is)
