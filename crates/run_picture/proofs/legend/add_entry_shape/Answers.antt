use Rattle.std.proofs.Common.{rules}
use Rattle.run_picture.specs.Legend.{entry_shape}
use Rattle.run_picture.proofs.PiecesJoined.{puts_text}
use Rattle.run_picture.proofs.legend.add_entry_shape.Goals as goal

pub returns : goal.returns
unfolding entry_shape
returns c = puts_text c.add_pieces.result c.args.text.now c.add_pieces.new.text (entry_shape c.args.n c.args.kind) _ (search rules) c.add_pieces.ensures
