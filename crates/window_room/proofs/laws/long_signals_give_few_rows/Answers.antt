use Rattle.window_room.proofs.LongSignals.{long_signals}
use Rattle.window_room.proofs.laws.long_signals_give_few_rows.Goals as goal

pub returns : goal.returns
returns c = long_signals
