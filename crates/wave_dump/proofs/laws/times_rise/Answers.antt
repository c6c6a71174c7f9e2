use Rattle.wave_dump.proofs.RisingTimes.{each_changes, times_rise}
use Rattle.wave_dump.proofs.laws.times_rise.Goals as goal

pub returns-clause-rise : goal.returns-clause-rise
returns-clause-rise c = times_rise

pub returns-clause-change : goal.returns-clause-change
returns-clause-change c = each_changes
