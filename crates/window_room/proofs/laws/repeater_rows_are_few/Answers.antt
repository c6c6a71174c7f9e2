use Rattle.window_room.proofs.RepeaterPays.{any_repeater, repeater_pays}
use Rattle.window_room.proofs.laws.repeater_rows_are_few.Goals as goal

pub returns-clause-paid : goal.returns-clause-paid
returns-clause-paid c = repeater_pays

pub returns-clause-any : goal.returns-clause-any
returns-clause-any c = any_repeater
