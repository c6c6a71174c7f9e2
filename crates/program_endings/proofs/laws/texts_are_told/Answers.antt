use Rattle.program_endings.proofs.FilesAfterRuns.{texts_are_failed, texts_are_cut_short, texts_keep_files}
use Rattle.program_endings.proofs.LoadsDecideStatus.{texts_are_complete}
use Rattle.program_endings.proofs.laws.texts_are_told.Goals as goal

pub returns-clause-failed : goal.returns-clause-failed
returns-clause-failed c = texts_are_failed

pub returns-clause-cut : goal.returns-clause-cut
returns-clause-cut c = texts_are_cut_short

pub returns-clause-held : goal.returns-clause-held
returns-clause-held c = texts_keep_files

pub returns-clause-complete : goal.returns-clause-complete
returns-clause-complete c = texts_are_complete
