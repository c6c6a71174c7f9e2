use Rattle.program_endings.proofs.AnswersOfRunForms.{smaller_answers}
use Rattle.program_endings.proofs.laws.smaller_answers.Goals as goal

pub returns : goal.returns
returns c = smaller_answers
