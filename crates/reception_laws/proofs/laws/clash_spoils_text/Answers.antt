use Rattle.reception_laws.proofs.WholeReceptions.{clash_spoils_text}
use Rattle.reception_laws.proofs.laws.clash_spoils_text.Goals as goal

pub returns : goal.returns
returns c = clash_spoils_text
