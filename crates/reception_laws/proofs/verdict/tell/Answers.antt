use Rattle.std.proofs.Common.{◌∙◌, false, length, refl, sym, ap}
use Rattle.mac_receive.specs.Receiver.{Receiving, new_receiving, receiver_after}
use Rattle.mac_receive.specs.KeptReceiver.{Hears, kept_octets}
use Rattle.reception_laws.specs.LateReceptions.{text_kept}
use Rattle.reception_laws.specs.WholeReceptions.{TextVerdict}
use Rattle.reception_laws.proofs.ReceptionsHeard.{new_awaits}
use Rattle.reception_laws.proofs.ToldOctets.{told_with, told_count, same_verdict}
use Rattle.reception_laws.proofs.ToldOnce.{heard_hears, octets_of}
use Rattle.reception_laws.proofs.verdict.tell.Goals as goal

pub returns-clause-told : goal.returns-clause-told
returns-clause-told c =
    let new = new_receiving c.args.lose c.args.most in
    let heard = receiver_after new c.args.text.now false in
    let hears = c.hear-receiver.ensures.hears new (new_awaits c.args.lose c.args.most) refl refl in
    let event = c.step-event.ensures.event heard hears in
    same_verdict _ _ _ _ event
    (told_with c.args.lose c.args.most c.args.text.now c.step-event.result (kept_octets c.step-event.new.self) c.requires.signal event (λ n is. c.step-event.ensures.octets heard n hears is))

pub returns-clause-count : goal.returns-clause-count
returns-clause-count c = λ n is.
    let same = returns-clause-told c in
    ap (λ (v : TextVerdict). length v.octets) same
    ∙ told_count c.args.lose c.args.most c.args.text.now n c.requires.signal (sym (ap (λ (v : TextVerdict). v.event) same) ∙ is)

pub returns-clause-each : goal.returns-clause-each
returns-clause-each c =
    let lose = c.args.lose in
    let most = c.args.most in
    let text = c.args.text.now in
    let kept = c.hear-receiver.result in
    let heard : Hears (receiver_after (new_receiving lose most) text false) kept = c.hear-receiver.ensures.hears (new_receiving lose most) (new_awaits lose most) refl refl in
    let as_heard : (r : Receiving) → Hears r (text_kept lose most text 0) → Hears r kept = λ r h. heard_hears lose most text kept r c.requires.signal heard h in
    record {
      event = λ r h. c.step-event.ensures.event r (as_heard r h);
      octets = λ r n h is. octets_of c.step-event.result (kept_octets c.step-event.new.self) n is ∙ c.step-event.ensures.octets r n (as_heard r h) is;
      count = returns-clause-count c;
    }
