use Rattle.reception_laws.proofs.WholeReceptions.{short_text_is_fragment}
use Rattle.reception_laws.proofs.laws.short_text_is_fragment.Goals as goal

pub returns : goal.returns
returns c = short_text_is_fragment
