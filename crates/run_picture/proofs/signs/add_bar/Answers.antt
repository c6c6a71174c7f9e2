use Rattle.std.proofs.Common.{rules}
use Rattle.run_picture.specs.Signs.{bar}
use Rattle.run_picture.proofs.PiecesJoined.{puts_text}
use Rattle.run_picture.proofs.signs.add_bar.Goals as goal

pub returns : goal.returns
unfolding bar
returns c = puts_text c.add_pieces.result c.args.text.now c.add_pieces.new.text (bar c.args.window c.args.outcome c.args.start c.args.end c.args.y) _ (search rules) c.add_pieces.ensures
