use Rattle.quiet_state.proofs.QuietAsKept.{quiet_as_kept, last_signals_go_on, still_after_silence, still_as_kept}
use Rattle.quiet_state.proofs.laws.quiet_is_as_kept.Goals as goal

pub returns-clause-quiet : goal.returns-clause-quiet
returns-clause-quiet c = quiet_as_kept

pub returns-clause-signals : goal.returns-clause-signals
returns-clause-signals c = last_signals_go_on

pub returns-clause-receivers : goal.returns-clause-receivers
returns-clause-receivers c = still_after_silence

pub returns-clause-kept : goal.returns-clause-kept
returns-clause-kept c = still_as_kept
