use Rattle.std.proofs.Common.{map, arith}
use Rattle.layout.specs.Taps.{tap_of}
use Rattle.net_parts.proofs.NearestTaps.{few_nearest}
use Rattle.net_parts.proofs.timing.nearest_station.Goals as goal

pub loop-station-init : goal.loop-station-init
loop-station-init c = let few = few_nearest c.args.tap c.args.here 0 (map tap_of c.args.stations.now) in record { so_far = omega (arith, few); most = omega arith }
