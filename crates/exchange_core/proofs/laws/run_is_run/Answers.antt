use Rattle.exchange_core.proofs.BoardTies.{run_is_run}
use Rattle.exchange_core.proofs.laws.run_is_run.Goals as goal

pub returns : goal.returns
returns c = run_is_run
