use Rattle.mac_receive.proofs.LeapsAreSteps.{leapt_quiet, bodies_quiet}
use Rattle.mac_receive.proofs.receiver.Receiver.leap_quiet.Goals as goal

pub returns-then-n-gt0-clause-state : goal.returns-then-n-gt0-clause-state
returns-then-n-gt0-clause-state c = λ r h. leapt_quiet c.args.n r c.args.self.now c.fall_still.new.self c.if-n-gt0.true c.fall_still.ensures h

pub returns-then-n-gt0-clause-bodies : goal.returns-then-n-gt0-clause-bodies
returns-then-n-gt0-clause-bodies c = λ r h. bodies_quiet c.args.n r c.args.self.now c.requires.none h
