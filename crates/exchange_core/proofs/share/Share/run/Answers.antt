use Rattle.std.proofs.Common.{true, false}
use Rattle.exchange_core.specs.Holdings.{run_holding}
use Rattle.exchange_core.proofs.SoundShares.{run_next}
use Rattle.exchange_core.proofs.SidedShares.{next_whole}
use Rattle.exchange_core.proofs.share.Share.run.Goals as goal

pub invariant_of-self : goal.invariant_of-self
invariant_of-self g c = next_whole true _ _ _ _ c.self.invariant run_holding run_next c.args.part c.run.new.self c.run.ensures

pub invariant_of-self-else-owns : goal.invariant_of-self-else-owns
invariant_of-self-else-owns g c = next_whole false _ _ _ _ c.self.invariant run_holding run_next c.args.part c.run-else-owns.new.self c.run-else-owns.ensures
