use Rattle.std.proofs.Common.{◌∙◌, append_assoc}
use Rattle.std.specs.Fmt.{decimal}
use Rattle.std.specs.Prelude.{codes}
use Rattle.std.proofs.lemmas.Result.{on_ok_weaker}
use Rattle.run_checkpoint.proofs.sender_line.add_phase.Goals as goal

pub returns-in-Backoff : goal.returns-in-Backoff
returns-in-Backoff c = on_ok_weaker c.add_figure.result (λ e. rw c.in-Backoff.is (e ∙ append_assoc c.args.text.now (codes " phase backoff ") (decimal c.in-Backoff.until))) c.add_figure.ensures
