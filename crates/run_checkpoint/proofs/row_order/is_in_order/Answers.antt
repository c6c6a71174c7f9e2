use Rattle.std.proofs.Common.{ap, sym, ◌∙◌}
use Rattle.run_checkpoint.specs.Ranges.{is_in_order}
use Rattle.run_checkpoint.proofs.EntriesSteps.{last_is}
use Rattle.run_checkpoint.proofs.row_order.is_in_order.Goals as goal

pub returns : goal.returns
returns c = c.comes_after.ensures ∙ ap (λ o. is_in_order o c.args.row.now) (sym (last_is c.args.before.now _ (sym c.is_empty.ensures ∙ c.if-is_empty.false)))
