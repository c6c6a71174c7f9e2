use Rattle.std.proofs.Common.{◌∙◌, sym}
use Rattle.window_room.proofs.ReceiverRoom.{octets_few, fits, next}
use Rattle.window_room.proofs.ReceptionSteps.{steps}
use Rattle.window_room.proofs.receive.receive_one.Goals as goal

pub keep_reception-requires-clause-room : goal.keep_reception-requires-clause-room
keep_reception-requires-clause-room c =
    let r = c.requires.hears.0 in
    let h = c.requires.hears.1 in
    fits r c.args.receiver.now c.args.heard c.args.sending c.args.room.now c.step-event.result h (c.step-event.ensures.event r h) c.requires.room

pub keep_reception-requires-clause-octets : goal.keep_reception-requires-clause-octets
keep_reception-requires-clause-octets c = λ n is.
    let r = c.requires.hears.0 in
    let h = c.requires.hears.1 in
    octets_few r c.args.heard c.args.sending n c.octets.result.now (sym (c.step-event.ensures.event r h) ∙ is) (c.octets.ensures ∙ c.step-event.ensures.octets r n h is)

pub returns-clause-left : goal.returns-clause-left
returns-clause-left c = λ n other a.
    let r = c.requires.hears.0 in
    let h = c.requires.hears.1 in
    next r c.args.receiver.now c.step-event.new.self c.args.heard c.args.sending n c.step-event.result other c.args.room.now c.keep_reception.new.room h (c.step-event.ensures.state r h)
    (steps r c.args.heard c.args.sending).0 (c.step-event.ensures.event r h) c.keep_reception.ensures.room a
