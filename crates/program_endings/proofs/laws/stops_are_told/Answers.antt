use Rattle.program_endings.proofs.StopsAreLeft.{stop_files_are_whole, stops_are_broken, stops_are_complete, stops_are_refused, stops_are_silent}
use Rattle.program_endings.proofs.laws.stops_are_told.Goals as goal

pub returns-clause-failed : goal.returns-clause-failed
returns-clause-failed c = stops_are_broken

pub returns-clause-refused : goal.returns-clause-refused
returns-clause-refused c = stops_are_refused

pub returns-clause-silent : goal.returns-clause-silent
returns-clause-silent c = stops_are_silent

pub returns-clause-whole : goal.returns-clause-whole
returns-clause-whole c = stop_files_are_whole

pub returns-clause-complete : goal.returns-clause-complete
returns-clause-complete c = stops_are_complete
