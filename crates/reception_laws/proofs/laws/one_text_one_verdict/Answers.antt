use Rattle.reception_laws.proofs.NetworkReceptions.{one_text_one_verdict}
use Rattle.reception_laws.proofs.laws.one_text_one_verdict.Goals as goal

pub returns : goal.returns
returns c = one_text_one_verdict
