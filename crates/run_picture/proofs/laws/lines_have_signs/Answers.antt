use Rattle.run_picture.proofs.Drawn.{ports_have_signs, receptions_have_signs}
use Rattle.run_picture.proofs.laws.lines_have_signs.Goals as goal

pub returns-clause-receptions : goal.returns-clause-receptions
returns-clause-receptions c = receptions_have_signs

pub returns-clause-ports : goal.returns-clause-ports
returns-clause-ports c = ports_have_signs
