use Rattle.std.proofs.Common.{◌≡◌, ap, arith}
use Rattle.mac_receive.proofs.StepsKeepMeaning.{new_receiver}
use Rattle.mac_receive.proofs.receiver.Receiver.new_for.Goals as goal

pub invariant_of-result : goal.invariant_of-result
invariant_of-result c =
    let none : c.new.result.halves ≡ 0 = ap (λ d. d.halves) c.new.ensures.cleared in
    (c.requires.most, c.requires.lose, omega arith, omega (arith, none), omega arith, new_receiver c.args.lose c.args.most _ c.new.result 0)
