use Rattle.program_endings.proofs.FilesAfterRuns.{words_are_said}
use Rattle.program_endings.proofs.laws.words_are_said.Goals as goal

pub returns : goal.returns
returns c = words_are_said
