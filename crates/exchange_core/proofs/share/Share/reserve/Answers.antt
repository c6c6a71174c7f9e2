use Rattle.std.proofs.Common.{◌≡◌, Bool, true, false, List, ℕ, cond}
use Rattle.std.specs.Prelude.{Result, OnOk, OnErr}
use Rattle.exchange_core.specs.Holdings.{reserved_holding, refused_holding}
use Rattle.exchange_core.specs.Shares.{Rack, change_on, share_of, IsWholeShare}
use Rattle.exchange_core.proofs.EitherAnswer.{on_either}
use Rattle.exchange_core.proofs.SoundShares.{reserved_next, refused_next}
use Rattle.exchange_core.proofs.SidedShares.{next_whole}
use Rattle.exchange_core.proofs.share.Share.reserve.Goals as goal

either_way : {X Y : Type 0} (kind : Bool) (so ro : List ℕ) (a b : Rack) → IsWholeShare so ro (share_of a b) → (u : ℕ) (r : Rack) (answer : Result X Y)
    → OnOk answer (r ≡ change_on reserved_holding u (cond kind a b)) → OnErr answer (r ≡ change_on refused_holding u (cond kind a b)) → IsWholeShare so ro (share_of (cond kind r a) (cond kind b r))
either_way kind so ro a b w u r answer ok err =
    on_either answer (r ≡ change_on reserved_holding u (cond kind a b)) (r ≡ change_on refused_holding u (cond kind a b)) (IsWholeShare so ro (share_of (cond kind r a) (cond kind b r))) ok err
    (next_whole kind so ro a b w reserved_holding reserved_next u r) (next_whole kind so ro a b w refused_holding refused_next u r)

pub invariant_of-self : goal.invariant_of-self
invariant_of-self g c = either_way true _ _ _ _ c.self.invariant c.args.part c.reserve.new.self c.reserve.result c.reserve.ensures.ok c.reserve.ensures.err

pub invariant_of-self-else-owns : goal.invariant_of-self-else-owns
invariant_of-self-else-owns g c = either_way false _ _ _ _ c.self.invariant c.args.part c.reserve-else-owns.new.self c.reserve-else-owns.result c.reserve-else-owns.ensures.ok c.reserve-else-owns.ensures.err
