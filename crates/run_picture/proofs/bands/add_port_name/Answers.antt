use Rattle.std.proofs.Common.{rules}
use Rattle.run_picture.specs.Bands.{port_name}
use Rattle.run_picture.proofs.PiecesJoined.{puts_text}
use Rattle.run_picture.proofs.bands.add_port_name.Goals as goal

pub returns : goal.returns
returns c = puts_text c.add_pieces.result c.args.text.now c.add_pieces.new.text (port_name c.args.name.now c.args.number) _ (search rules) c.add_pieces.ensures
