use Rattle.std.proofs.Common.{rules}
use Rattle.run_picture.specs.Marks.{word_of_drop}
use Rattle.run_picture.proofs.PiecesJoined.{puts_text}
use Rattle.run_picture.proofs.marks.add_word.Goals as goal

pub returns : goal.returns
unfolding word_of_drop
returns c = puts_text c.add_pieces.result c.args.text.now c.add_pieces.new.text (word_of_drop c.args.window c.args.t c.args.y c.args.why) _ (search rules) c.add_pieces.ensures
