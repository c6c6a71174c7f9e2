use Rattle.reception_laws.proofs.NetworkReceptions.{one_line_one_verdict}
use Rattle.reception_laws.proofs.laws.one_line_one_verdict.Goals as goal

pub returns : goal.returns
returns c = one_line_one_verdict
