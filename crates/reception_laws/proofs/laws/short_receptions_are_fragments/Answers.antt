use Rattle.reception_laws.proofs.NetworkReceptions.{short_receptions_are_fragments}
use Rattle.reception_laws.proofs.laws.short_receptions_are_fragments.Goals as goal

pub returns : goal.returns
returns c = short_receptions_are_fragments
