use Rattle.std.proofs.Common.{◌∙◌}
use Rattle.netsim.proofs.PageTexts.{page-of}
use Rattle.netsim.proofs.page.text_of_page.Goals as goal

pub page-requires : goal.page-requires
page-requires c = c.in_ok-signals.ensures.many

pub returns : goal.returns
returns c = page-of _ c.args.plan.now c.args.from c.args.to _ _ _ c.in_ok-signals.ensures (c.as_slice.ensures ∙ c.in_ok-rows.ensures) c.page.ensures
