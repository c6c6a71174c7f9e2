use Rattle.std.specs.Fmt.{decimal}
use Rattle.std.specs.Prelude.{codes}
use Rattle.std.proofs.lemmas.Result.{on_ok_weaker}
use Rattle.run_checkpoint.specs.LineTexts.{count_words}
use Rattle.run_checkpoint.proofs.Pieces.{nine_put}
use Rattle.run_checkpoint.proofs.guard_line.add_counts.Goals as goal

pub returns : goal.returns
unfolding count_words
returns c =
    let line = c.args.line.now in
    on_ok_weaker c.extend.result
    (λ e. nine_put c.args.text.now (codes " in_row ") (decimal line.in_row) (codes " clash_run ") (decimal line.clash_run) (codes " clean_run ") (decimal line.clean_run) (codes " rest ") (decimal line.rest) (codes "\n")
    c.add_figure.new.text c.add_figure-2.new.text c.add_figure-3.new.text c.add_figure-4.new.text c.extend.new.self
    c.in_ok-add_figure.ensures c.in_ok-add_figure-2.ensures c.in_ok-add_figure-3.ensures c.in_ok-add_figure-4.ensures e)
    c.extend.ensures.ok
