use Rattle.program_endings.proofs.AnswersAreReliable.{answers_are_reliable}
use Rattle.program_endings.proofs.laws.answers_are_reliable.Goals as goal

pub returns : goal.returns
returns c = answers_are_reliable
