use Rattle.layout.specs.declared.ways.Attachment.TheVariants.{Station}
use Rattle.layout.specs.declared.ways.Way.TheVariants as way
use Rattle.path_checker.proofs.ShortWalks.{has_room}
use Rattle.path_checker.proofs.WorstPair.{farthest_apart}
use Rattle.path_checker.proofs.verdict.farthest_of.Goals as goal

pub farthest-requires-clause-room : goal.farthest-requires-clause-room
farthest-requires-clause-room c = has_room c.args.layout.now c.requires.sound way.Cable (Station c.args.station)

pub returns-clause-far : goal.returns-clause-far
returns-clause-far c = farthest_apart c.args.layout.now c.requires.sound c.args.station c.farthest.result c.farthest.ensures.far
