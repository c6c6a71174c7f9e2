use Rattle.reception_laws.proofs.WholeReceptions.{whole_text_is_told}
use Rattle.reception_laws.proofs.laws.whole_text_is_told.Goals as goal

pub returns : goal.returns
returns c = whole_text_is_told
