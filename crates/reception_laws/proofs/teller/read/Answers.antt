use Rattle.std.proofs.Common.{◌≡◌, length, sym, subst}
use Rattle.reception_laws.specs.LateReceptions.{IsVerdictFor}
use Rattle.reception_laws.proofs.ToldOnce.{spoiled_verdict}
use Rattle.reception_laws.proofs.teller.read.Goals as goal

pub returns-then-is_spoiled : goal.returns-then-is_spoiled
returns-then-is_spoiled c =
    let text = c.args.text.now in
    subst (λ v. IsVerdictFor c.args.lose c.args.most text v) (sym c.tell_spoiled.ensures)
    (spoiled_verdict c.args.lose c.args.most text c.if-lose-eq0.true c.requires.some (c.is_spoiled.ensures.spoiled c.if-is_spoiled.true))
