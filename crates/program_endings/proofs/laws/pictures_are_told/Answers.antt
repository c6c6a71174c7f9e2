use Rattle.program_endings.proofs.PicturesAreTold.{pictures_are_complete, pictures_are_cut_short, pictures_are_refused, pictures_keep_files}
use Rattle.program_endings.proofs.laws.pictures_are_told.Goals as goal

pub returns-clause-failed : goal.returns-clause-failed
returns-clause-failed c = pictures_are_cut_short

pub returns-clause-refused : goal.returns-clause-refused
returns-clause-refused c = pictures_are_refused

pub returns-clause-held : goal.returns-clause-held
returns-clause-held c = pictures_keep_files

pub returns-clause-complete : goal.returns-clause-complete
returns-clause-complete c = pictures_are_complete
