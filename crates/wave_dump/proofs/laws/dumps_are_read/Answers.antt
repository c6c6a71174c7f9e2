use Rattle.wave_dump.proofs.DumpReadings.{dumps_are_read, dumps_of_plans_are_read}
use Rattle.wave_dump.proofs.TapNames.{tap_words_are_names}
use Rattle.wave_dump.proofs.laws.dumps_are_read.Goals as goal

pub returns-clause-heard : goal.returns-clause-heard
returns-clause-heard c = dumps_are_read

pub returns-clause-plan : goal.returns-clause-plan
returns-clause-plan c = dumps_of_plans_are_read

pub returns-clause-words : goal.returns-clause-words
returns-clause-words c = tap_words_are_names
