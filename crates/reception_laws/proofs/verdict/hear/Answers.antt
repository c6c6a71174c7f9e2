use Rattle.std.proofs.Common.{◌∙◌, ℕ, false, sym, ap₂, subst}
use Rattle.mac_receive.specs.Receiver.{Receiving, new_receiving, receiver_after}
use Rattle.mac_receive.specs.KeptReceiver.{Hears}
use Rattle.reception_laws.proofs.ReceptionsHeard.{awaits_as_new}
use Rattle.reception_laws.proofs.verdict.hear.Goals as goal

pub returns-clause-hears : goal.returns-clause-hears
returns-clause-hears c = λ r awaited lose most.
    let P : Receiving → Type 0 = λ x. Hears (receiver_after x c.args.text.now false) c.take.new.self in
    subst P
    (sym (awaits_as_new r awaited ∙ ap₂ (λ (l : ℕ) (m : ℕ). new_receiving l m) lose most))
    (c.take.ensures.state (new_receiving c.args.lose c.args.most) c.new_for-receiver.ensures.hears)
