use Rattle.std.proofs.Common.{refl}
use Rattle.run_picture.proofs.laws.times_are_microseconds.Goals as goal

pub returns-clause-microsecond : goal.returns-clause-microsecond
returns-clause-microsecond c = refl

pub returns-clause-tenth : goal.returns-clause-tenth
returns-clause-tenth c = refl
