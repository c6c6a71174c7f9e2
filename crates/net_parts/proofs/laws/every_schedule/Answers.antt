use Rattle.net_parts.proofs.BoardEvents.{every_schedule}
use Rattle.net_parts.proofs.laws.every_schedule.Goals as goal

pub returns : goal.returns
returns c = every_schedule
