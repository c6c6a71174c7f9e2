use Rattle.std.proofs.Common.{true, false}
use Rattle.exchange_core.specs.Holdings.{spoil_holding}
use Rattle.exchange_core.proofs.SoundShares.{spoil_next}
use Rattle.exchange_core.proofs.SidedShares.{next_whole}
use Rattle.exchange_core.proofs.share.Share.spoil.Goals as goal

pub invariant_of-self : goal.invariant_of-self
invariant_of-self g c = next_whole true _ _ _ _ c.self.invariant spoil_holding spoil_next c.args.part c.spoil.new.self c.spoil.ensures

pub invariant_of-self-else-owns : goal.invariant_of-self-else-owns
invariant_of-self-else-owns g c = next_whole false _ _ _ _ c.self.invariant spoil_holding spoil_next c.args.part c.spoil-else-owns.new.self c.spoil-else-owns.ensures
