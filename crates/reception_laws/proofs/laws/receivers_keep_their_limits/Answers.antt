use Rattle.reception_laws.proofs.NetworkReceptions.{lost_bits_stay, allowed_octets_stay}
use Rattle.reception_laws.proofs.laws.receivers_keep_their_limits.Goals as goal

pub returns-clause-lost : goal.returns-clause-lost
returns-clause-lost c = lost_bits_stay

pub returns-clause-allowed : goal.returns-clause-allowed
returns-clause-allowed c = allowed_octets_stay
