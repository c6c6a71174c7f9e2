use Rattle.std.proofs.Common.{codes}
use Rattle.std.specs.Prelude.{decimal}
use Rattle.std.proofs.lemmas.Result.{on_ok_weaker}
use Rattle.run_picture.specs.Head.{clip_of_plot, ground, head, patterns, size_of_picture, style}
use Rattle.run_picture.proofs.PiecesJoined.{head_joined, one_by_one}
use Rattle.run_picture.proofs.head.add_head.Goals as goal

pub returns : goal.returns
unfolding head size_of_picture clip_of_plot ground
returns c =
    on_ok_weaker c.add_pieces-2.result
    (λ e. head_joined c.args.text.now
    (codes "<svg xmlns='http://www.w3.org/2000/svg' version='1.1' width='100%' viewBox='-26000 0 133000 ") (decimal c.args.height) (codes "'>\n") style (codes "<defs>\n") patterns (codes "<clipPath id='plot'><path d='M0 0H100000V") (codes "H0z'/></clipPath>\n") (codes "</defs>\n") (codes "<path d='M-26000 0h133000v") (codes "h-133000z' fill='#ffffff'/>\n")
    c.add_pieces.new.text c.add_style.new.text c.extend.new.self c.add_patterns.new.text c.add_pieces-2.new.text
    (one_by_one _ _ _ c.in_ok-add_pieces.ensures) c.in_ok-add_style.ensures c.in_ok-extend.ensures.ok c.in_ok-add_patterns.ensures (one_by_one _ _ _ e))
    c.add_pieces-2.ensures
