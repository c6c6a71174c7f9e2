use Rattle.std.proofs.Common.{ap, codes, ◌∙◌}
use Rattle.std.specs.Prelude.{decimal}
use Rattle.std.proofs.lemmas.Result.{on_ok_weaker}
use Rattle.run_picture.specs.Bands.{lane_text, letters_word, name_of_device, name_of_tap}
use Rattle.run_picture.proofs.PiecesJoined.{lane_joined, one_by_one}
use Rattle.run_picture.proofs.bands.add_lane.Goals as goal

pub returns : goal.returns
unfolding lane_text
returns c =
    let layout = c.args.layout.now in
    let lane = c.args.lane.now in
    on_ok_weaker c.add_pieces-2.result
    (λ e. lane_joined c.args.text.now (decimal lane.y)
    c.letters_word-letters.result.now (letters_word (name_of_device layout lane.tap)) (decimal c.from.result) (decimal lane.at)
    (codes "<path class='lane' d='M0 ") (codes "h100000'/><text class='name") (codes "' x='-4400' y='") (codes "' dy='500'>") (name_of_tap layout lane.tap)
    (codes "</text><text class='place' x='-600' y='") (codes "' dy='400'>") (codes "</text>\n")
    c.add_pieces.new.text c.add_name.new.text c.add_pieces-2.new.text
    (c.letters_word-letters.ensures ∙ ap letters_word c.name_of_device.ensures) (ap decimal c.from.ensures)
    (one_by_one _ _ _ c.in_ok-add_pieces.ensures) c.in_ok-add_name.ensures (one_by_one _ _ _ e))
    c.add_pieces-2.ensures
