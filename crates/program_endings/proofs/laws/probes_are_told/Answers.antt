use Rattle.program_endings.proofs.ProbesAreTold.{probes_are_complete, probes_are_cut_short, probes_are_refused, probes_keep_files}
use Rattle.program_endings.proofs.laws.probes_are_told.Goals as goal

pub returns-clause-failed : goal.returns-clause-failed
returns-clause-failed c = probes_are_cut_short

pub returns-clause-refused : goal.returns-clause-refused
returns-clause-refused c = probes_are_refused

pub returns-clause-held : goal.returns-clause-held
returns-clause-held c = probes_keep_files

pub returns-clause-complete : goal.returns-clause-complete
returns-clause-complete c = probes_are_complete
