use Rattle.run_page.proofs.OnePages.{one_page}
use Rattle.run_page.proofs.laws.one_page.Goals as goal

pub returns : goal.returns
returns c = one_page
