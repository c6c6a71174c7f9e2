use Rattle.std.proofs.Common.{◌∙◌, append_assoc}
use Rattle.std.specs.Prelude.{codes}
use Rattle.std.proofs.lemmas.Result.{on_ok_weaker}
use Rattle.run_checkpoint.specs.LineTexts.{yes_or_no}
use Rattle.run_checkpoint.proofs.sender_line.add_defer.Goals as goal

pub returns-in-Busy : goal.returns-in-Busy
returns-in-Busy c = on_ok_weaker c.add_truth.result (λ e. rw c.in-Busy.is (e ∙ append_assoc c.args.text.now (codes " defer busy ") (yes_or_no c.in-Busy.was))) c.add_truth.ensures
