use Rattle.std.proofs.Common.{◌≡◌, ◌≤◌, List, ℕ, [], ◌∷◌, ◌++◌, length, take, ap, ◌∙◌, arith, codes}
use Rattle.std.proofs.lemmas.Result.{on_ok_weaker}
use Rattle.collision_log.specs.Rows.{row_line}
use Rattle.run_picture.specs.Marks.{title_of}
use Rattle.run_picture.proofs.PiecesJoined.{one_by_one}
use Rattle.run_picture.proofs.Titles.{title_taken}
use Rattle.run_picture.proofs.marks.add_title.Goals as goal

pub returns : goal.returns
unfolding title_of
returns c =
    let line = c.args.line.now in
    let written : take c.row_text-len.result c.row_text-len.new.out ≡ title_of line ++ 10 ∷ [] =
    c.row_text-len.ensures.text ∙ ap (row_line (record { t = line.t; device = 0; body = line.body }) line.repeater) c.as_str.ensures in
    let within : c.row_text-len.result ≤ length c.row_text-len.new.out = omega (arith, c.row_text-len.ensures.fits, c.row_text-len.auto.out) in
    on_ok_weaker c.add_pieces.result
    (λ e. one_by_one _ _ _ e ∙ ap (λ (xs : List ℕ). c.args.text.now ++ (codes "<g><title>" ++ xs ++ codes "</title>")) (title_taken c.row_text-len.new.out (title_of line) c.row_text-len.result 10 within written))
    c.add_pieces.ensures
