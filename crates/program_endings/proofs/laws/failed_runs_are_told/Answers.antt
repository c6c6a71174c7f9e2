use Rattle.program_endings.proofs.FilesAfterRuns.{files_are_whole, failures_are_silent}
use Rattle.program_endings.proofs.laws.failed_runs_are_told.Goals as goal

pub returns-clause-whole : goal.returns-clause-whole
returns-clause-whole c = files_are_whole

pub returns-clause-silent : goal.returns-clause-silent
returns-clause-silent c = failures_are_silent
