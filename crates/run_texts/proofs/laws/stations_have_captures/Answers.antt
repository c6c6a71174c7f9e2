use Rattle.run_texts.proofs.StationsStay.{length-captures}
use Rattle.run_texts.proofs.laws.stations_have_captures.Goals as goal

pub returns : goal.returns
returns c = length-captures c.args.plan.now
