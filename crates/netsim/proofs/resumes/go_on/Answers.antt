use Rattle.run_forms.proofs.RunEnds.{same-filed}
use Rattle.netsim.proofs.resumes.go_on.Goals as goal

pub returns : goal.returns
returns g c = same-filed c.args.prefix.now c.args.plan.now _ _ _ _ c.args.world.now c.file_run.new.world _ c.in_ok-outputs.ensures.rows c.in_ok-outputs.ensures.captures c.file_run.ensures
