use Rattle.run_picture.proofs.Drawn.{hits_have_signs, sendings_have_bars}
use Rattle.run_picture.proofs.laws.sendings_have_bars.Goals as goal

pub returns-clause-bars : goal.returns-clause-bars
returns-clause-bars c = sendings_have_bars

pub returns-clause-hits : goal.returns-clause-hits
returns-clause-hits c = hits_have_signs
