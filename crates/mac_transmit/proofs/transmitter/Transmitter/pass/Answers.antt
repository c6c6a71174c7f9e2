use Rattle.std.proofs.Common.{ℕ, suc, ◌<◌, Option, Some, None, arith}
use Rattle.mac_transmit.specs.Calm.{change_in, AreOverBefore}
use Rattle.mac_transmit.proofs.CalmEmissions.{emits_so}
use Rattle.mac_transmit.proofs.CalmHalfBits.{leap_is}
use Rattle.mac_transmit.proofs.transmitter.Transmitter.pass.Goals as goal

pub returns-clause-state : goal.returns-clause-state
returns-clause-state c = leap_is c.args.self.now c.leap_over.new.self c.args.carrier c.args.n c.leap_over.ensures.valid c.requires.calm c.leap_over.ensures.state

pub returns-clause-emits : goal.returns-clause-emits
returns-clause-emits c = λ hs h a e l. emits_so hs c.args.self.now c.args.carrier h a e (fewer_are_over l (change_in c.args.self.now c.args.carrier) c.requires.calm)
  where
    fewer_are_over : {i n : ℕ} → i < n → (o : Option ℕ) → AreOverBefore n o → AreOverBefore (suc i) o
    fewer_are_over l None f = tt
    fewer_are_over l (Some m) f = omega arith
