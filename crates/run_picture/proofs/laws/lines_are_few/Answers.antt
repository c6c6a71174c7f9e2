use Rattle.run_picture.proofs.FewLines.{lines_are_few}
use Rattle.run_picture.proofs.laws.lines_are_few.Goals as goal

pub returns : goal.returns
returns c = lines_are_few
