use Rattle.window_room.proofs.PaidRoom.{any_stations}
use Rattle.window_room.proofs.laws.stations_need_little.Goals as goal

pub returns : goal.returns
returns c = any_stations
