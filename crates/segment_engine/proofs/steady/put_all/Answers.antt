use Rattle.std.proofs.Common.{◌-◌}
use Rattle.segment_engine.proofs.steady.put_all.Goals as goal

pub piece_of-requires-clause-source : goal.piece_of-requires-clause-source
piece_of-requires-clause-source c = c.only-source.ensures.only (c.args.t - c.args.far) c.args.lines.now c.requires.loud
