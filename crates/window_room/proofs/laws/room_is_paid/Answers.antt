use Rattle.window_room.proofs.PaidRoom as paying
use Rattle.window_room.proofs.laws.room_is_paid.Goals as goal

pub returns-clause-any : goal.returns-clause-any
returns-clause-any c = paying.any

pub returns-clause-any_sender : goal.returns-clause-any_sender
returns-clause-any_sender c = paying.any_sender

pub returns-clause-receivers : goal.returns-clause-receivers
returns-clause-receivers c = paying.paid

pub returns-clause-senders : goal.returns-clause-senders
returns-clause-senders c = paying.sendings_paid
