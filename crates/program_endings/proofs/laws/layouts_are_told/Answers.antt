use Rattle.program_endings.proofs.FilesAfterRuns.{tellings_are_cut_short, tellings_are_refused, tellings_keep_files}
use Rattle.program_endings.proofs.LoadsDecideStatus.{tellings_are_complete}
use Rattle.program_endings.proofs.laws.layouts_are_told.Goals as goal

pub returns-clause-failed : goal.returns-clause-failed
returns-clause-failed c = tellings_are_cut_short

pub returns-clause-refused : goal.returns-clause-refused
returns-clause-refused c = tellings_are_refused

pub returns-clause-held : goal.returns-clause-held
returns-clause-held c = tellings_keep_files

pub returns-clause-complete : goal.returns-clause-complete
returns-clause-complete c = tellings_are_complete
