use Rattle.std.proofs.Common.{◌∙◌}
use Rattle.netsim.proofs.PictureEnds.{lines_pictured}
use Rattle.netsim.proofs.picture.draw.Goals as goal

pub returns-clause-drawn : goal.returns-clause-drawn
returns-clause-drawn g c =
    lines_pictured c.args.network.now c.args.lines.now c.args.from c.args.to c.from.result c.from-2.result c.args.world.now c.tell.new.self _ c.as_slice-2.result.now c.in_default.ensures (c.as_slice-2.ensures ∙ c.in_ok-text.ensures.text)
    c.from.ensures c.from-2.ensures c.tell.ensures.told.0
