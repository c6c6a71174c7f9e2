use Rattle.run_picture.proofs.LanesFound.{ports_have_lanes, stations_have_lanes}
use Rattle.run_picture.proofs.laws.taps_have_lanes.Goals as goal

pub returns-clause-stations : goal.returns-clause-stations
returns-clause-stations c = stations_have_lanes

pub returns-clause-ports : goal.returns-clause-ports
returns-clause-ports c = ports_have_lanes
