use Rattle.reception_laws.proofs.WholeReceptions.{idle_ends_reception}
use Rattle.reception_laws.proofs.laws.idle_ends_reception.Goals as goal

pub returns : goal.returns
returns c = idle_ends_reception
