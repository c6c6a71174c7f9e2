use Rattle.std.proofs.Common.{List, ◌++◌, ap, ◌∙◌}
use Rattle.std.proofs.lemmas.Result.{on_ok_weaker}
use Rattle.layout.specs.declared.lines.SegmentLine.{SegmentLine}
use Rattle.run_picture.specs.Axis.{axis}
use Rattle.run_picture.specs.Bands.{bands_text}
use Rattle.run_picture.specs.Head.{head}
use Rattle.run_picture.specs.Legend.{legend}
use Rattle.run_picture.proofs.Joined.{joined_4}
use Rattle.run_picture.proofs.drawing.add_front.Goals as goal

pub returns : goal.returns
returns c =
    on_ok_weaker c.add_bands.result
    (λ e. joined_4 c.args.text.now
    (head c.args.height) (legend c.args.window c.args.lines.now) (axis c.args.window c.args.height) (bands_text c.args.layout.now c.args.layout.now.segments c.args.bands.now)
    c.add_head.new.text c.add_legend.new.text c.add_axis.new.text c.add_bands.new.text
    c.in_ok-add_head.ensures c.in_ok-add_legend.ensures c.in_ok-add_axis.ensures (e ∙ ap (λ (segments : List SegmentLine). c.add_axis.new.text ++ bands_text c.args.layout.now segments c.args.bands.now) c.as_slice.ensures))
    c.add_bands.ensures
