use Rattle.std.proofs.Common.{ℕ, ◌+◌, ap, codes}
use Rattle.std.specs.Prelude.{decimal}
use Rattle.std.proofs.lemmas.Result.{on_ok_weaker}
use Rattle.run_picture.specs.Legend.{entry_name, entry_x, entry_y, kind_name}
use Rattle.run_picture.proofs.PiecesJoined.{entry_joined, one_by_one}
use Rattle.run_picture.proofs.legend.add_entry_name.Goals as goal

pub returns : goal.returns
unfolding entry_name
returns c =
    on_ok_weaker c.add_pieces.result
    (λ e. entry_joined c.args.text.now
    (decimal (c.entry_x.result + 1700)) (decimal (entry_x c.args.n + 1700)) (decimal c.entry_y.result) (decimal (entry_y c.args.n)) c.kind_name.result.now (kind_name c.args.kind)
    (codes "<text x='-26000' dx='") (codes "' y='") (codes "' dy='500'>") (codes "</text>\n") c.add_pieces.new.text
    (ap (λ (x : ℕ). decimal (x + 1700)) c.entry_x.ensures.x) (ap decimal c.entry_y.ensures) c.kind_name.ensures (one_by_one _ _ _ e))
    c.add_pieces.ensures
