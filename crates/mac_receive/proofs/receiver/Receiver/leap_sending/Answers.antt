use Rattle.std.proofs.Common.{◌<◌, ◌∙◌, length, sym, ap, arith}
use Rattle.mac_receive.specs.KeptReceiver.{still}
use Rattle.mac_receive.proofs.LeapsAreSteps.{leapt_sending, bodies_sending}
use Rattle.mac_receive.proofs.receiver.Receiver.leap_sending.Goals as goal

pub returns-then-n-gt0-clause-state : goal.returns-then-n-gt0-clause-state
returns-then-n-gt0-clause-state c = λ r heard len h.
    let some : 0 < length heard = omega (arith, len, c.if-n-gt0.true) in
    leapt_sending heard r c.args.self.now c.fall_still.new.self some (c.fall_still.ensures ∙ ap (still c.args.self.now _) (sym len)) h

pub returns-then-n-gt0-clause-bodies : goal.returns-then-n-gt0-clause-bodies
returns-then-n-gt0-clause-bodies c = λ r heard. bodies_sending heard r

pub returns-else-n-gt0-clause-bodies : goal.returns-else-n-gt0-clause-bodies
returns-else-n-gt0-clause-bodies c = λ r heard. bodies_sending heard r
