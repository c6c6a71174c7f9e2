use Rattle.std.proofs.Common.{rules}
use Rattle.run_picture.specs.Head.{pattern_of}
use Rattle.run_picture.proofs.PiecesJoined.{puts_text}
use Rattle.run_picture.proofs.head.add_pattern.Goals as goal

pub returns : goal.returns
unfolding pattern_of
returns c = puts_text c.add_pieces.result c.args.text.now c.add_pieces.new.text (pattern_of c.args.name.now c.args.colour.now c.args.lines.now) _ (search rules) c.add_pieces.ensures
