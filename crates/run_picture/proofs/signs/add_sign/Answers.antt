use Rattle.std.proofs.Common.{rules}
use Rattle.run_picture.specs.Signs.{sign}
use Rattle.run_picture.proofs.PiecesJoined.{puts_text}
use Rattle.run_picture.proofs.signs.add_sign.Goals as goal

pub returns : goal.returns
unfolding sign
returns c = puts_text c.add_pieces.result c.args.text.now c.add_pieces.new.text (sign c.args.window c.args.mark c.args.t c.args.y) _ (search rules) c.add_pieces.ensures
