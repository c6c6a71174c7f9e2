use Rattle.run_page.proofs.PlainLines.{nothing_is_escaped}
use Rattle.run_page.proofs.laws.nothing_is_escaped.Goals as goal

pub returns : goal.returns
returns c = nothing_is_escaped
