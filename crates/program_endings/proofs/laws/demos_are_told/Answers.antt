use Rattle.program_endings.proofs.FilesAfterRuns.{demos_are_cut_short, demos_are_refused, demos_have_statuses, demos_keep_files}
use Rattle.program_endings.proofs.LoadsDecideStatus.{demos_are_complete}
use Rattle.program_endings.proofs.laws.demos_are_told.Goals as goal

pub returns-clause-statuses : goal.returns-clause-statuses
returns-clause-statuses c = demos_have_statuses

pub returns-clause-failed : goal.returns-clause-failed
returns-clause-failed c = demos_are_cut_short

pub returns-clause-refused : goal.returns-clause-refused
returns-clause-refused c = demos_are_refused

pub returns-clause-held : goal.returns-clause-held
returns-clause-held c = demos_keep_files

pub returns-clause-complete : goal.returns-clause-complete
returns-clause-complete c = demos_are_complete
