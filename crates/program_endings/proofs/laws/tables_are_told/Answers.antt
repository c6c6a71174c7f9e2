use Rattle.program_endings.proofs.FramesAreTold.{tables_are_complete, tables_are_cut_short, tables_are_refused, tables_keep_files}
use Rattle.program_endings.proofs.laws.tables_are_told.Goals as goal

pub returns-clause-failed : goal.returns-clause-failed
returns-clause-failed c = tables_are_cut_short

pub returns-clause-refused : goal.returns-clause-refused
returns-clause-refused c = tables_are_refused

pub returns-clause-held : goal.returns-clause-held
returns-clause-held c = tables_keep_files

pub returns-clause-complete : goal.returns-clause-complete
returns-clause-complete c = tables_are_complete
