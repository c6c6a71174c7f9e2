use Rattle.std.proofs.Common.{ℕ, ◌+◌, ◌++◌, ◌∙◌, ap, codes}
use Rattle.std.specs.Prelude.{decimal}
use Rattle.std.proofs.lemmas.Result.{on_ok_weaker}
use Rattle.mac_parameters.specs.Distances.{distance}
use Rattle.run_picture.specs.Times.{place_of_time}
use Rattle.run_picture.specs.Waves.{point_of_wave}
use Rattle.run_picture.proofs.PiecesJoined.{one_by_one, point_joined}
use Rattle.run_picture.proofs.waves.add_point.Goals as goal

pub returns : goal.returns
unfolding point_of_wave
returns c =
    let lane = c.args.lane.now in
    on_ok_weaker c.add_pieces.result
    (λ e. point_joined c.args.text.now (place_of_time c.args.window (c.args.t + distance lane.at c.args.at)) (codes ",") (decimal lane.y) (codes " ")
    c.add_place.new.text c.add_pieces.new.text
    (c.in_ok-add_place.ensures ∙ ap (λ (d : ℕ). c.args.text.now ++ place_of_time c.args.window (c.args.t + d)) c.distance.ensures) (one_by_one _ _ _ e))
    c.add_pieces.ensures
