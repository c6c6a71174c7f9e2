use Rattle.std.proofs.Common.{refl}
use Rattle.layout.specs.declared.ways.Way.TheVariants as way
use Rattle.path_checker.proofs.ShortWalks.{has_room}
use Rattle.path_slack.proofs.BranchesSoFar.{station_off, port_reaches}
use Rattle.path_slack.proofs.branches.off_cable.Goals as goal

pub returns-in-Station-clause-far : goal.returns-in-Station-clause-far
returns-in-Station-clause-far c = station_off c.args.layout.now c.args.stop.now.tap c.in-Station.station _ c.in-Station.is refl

pub farthest-requires-clause-room : goal.farthest-requires-clause-room
farthest-requires-clause-room c = has_room c.args.layout.now c.requires.sound way.Repeater c.args.stop.now.tap

pub returns-clause-far : goal.returns-clause-far
returns-clause-far c = port_reaches c.args.layout.now way.Repeater c.args.stop.now.tap c.in_default.field-0 c.in_default.field-1 c.farthest.result c.in_default.is c.farthest.ensures.far
