use Rattle.std.proofs.Common.{codes}
use Rattle.std.proofs.lemmas.Result.{on_ok_weaker}
use Rattle.run_picture.specs.Waves.{points_of_wave, seen_wave}
use Rattle.run_picture.proofs.Joined.{joined_3}
use Rattle.run_picture.proofs.waves.add_seen_wave.Goals as goal

pub returns : goal.returns
unfolding seen_wave
returns c =
    on_ok_weaker c.extend-2.result
    (λ e. joined_3 c.args.text.now
    (codes "<polyline class='wave' points='") (points_of_wave c.args.window c.args.t c.args.at c.args.lanes.now) (codes "'/>")
    c.extend.new.self c.add_points.new.text c.extend-2.new.self
    c.in_ok-extend.ensures.ok c.in_ok-add_points.ensures e)
    c.extend-2.ensures.ok
