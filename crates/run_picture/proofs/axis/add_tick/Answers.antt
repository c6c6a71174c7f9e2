use Rattle.std.proofs.Common.{ap, codes}
use Rattle.std.specs.Prelude.{decimal}
use Rattle.std.proofs.lemmas.Result.{on_ok_weaker}
use Rattle.run_picture.specs.Axis.{microseconds, tick}
use Rattle.run_picture.specs.Times.{x_of}
use Rattle.run_picture.proofs.PiecesJoined.{tick_joined, one_by_one}
use Rattle.run_picture.proofs.axis.add_tick.Goals as goal

pub returns : goal.returns
unfolding tick
returns c =
    on_ok_weaker c.add_pieces-2.result
    (λ e. tick_joined c.args.text.now (decimal c.x_of-x.result) (decimal (x_of c.args.window c.args.t))
    (codes "<path class='line' d='M") (codes " 7700V") (decimal c.args.height) (codes "'/><text class='tick' x='") (codes "' y='5700'>") (microseconds c.args.t)
    (codes "</text><text class='tick' x='") (codes "' y='7200'>") (decimal c.args.t) (codes "</text>\n")
    c.add_pieces.new.text c.add_microseconds.new.text c.add_pieces-2.new.text
    (ap decimal c.x_of-x.ensures) (one_by_one _ _ _ c.in_ok-add_pieces.ensures) c.in_ok-add_microseconds.ensures (one_by_one _ _ _ e))
    c.add_pieces-2.ensures
