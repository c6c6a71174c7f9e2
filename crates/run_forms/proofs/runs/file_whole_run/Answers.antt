use Rattle.run_forms.proofs.RunEnds.{same-filed}
use Rattle.run_forms.proofs.runs.file_whole_run.Goals as goal

pub returns : goal.returns
returns g c = same-filed c.args.prefix.now c.args.plan.now _ _ _ _ c.args.world.now c.file_run.new.world _ c.requires.rows c.requires.captures c.file_run.ensures
