use Rattle.std.proofs.Common.{rules}
use Rattle.run_picture.specs.Axis.{words_of_axis}
use Rattle.run_picture.proofs.PiecesJoined.{puts_text}
use Rattle.run_picture.proofs.axis.add_words_of_axis.Goals as goal

pub returns : goal.returns
unfolding words_of_axis
returns c = puts_text c.add_pieces.result c.args.text.now c.add_pieces.new.text words_of_axis _ (search rules) c.add_pieces.ensures
