use Rattle.program_endings.proofs.MetersAreTold.{meters_are_complete, meters_are_cut_short, meters_are_refused, meters_keep_files}
use Rattle.program_endings.proofs.laws.meters_are_told.Goals as goal

pub returns-clause-failed : goal.returns-clause-failed
returns-clause-failed c = meters_are_cut_short

pub returns-clause-refused : goal.returns-clause-refused
returns-clause-refused c = meters_are_refused

pub returns-clause-held : goal.returns-clause-held
returns-clause-held c = meters_keep_files

pub returns-clause-complete : goal.returns-clause-complete
returns-clause-complete c = meters_are_complete
