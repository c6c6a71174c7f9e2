use Rattle.run_forms.proofs.RunEnds.{plain-ran}
use Rattle.run_forms.proofs.runs.plain.Goals as goal

pub returns : goal.returns
returns g c = plain-ran c.args.layout.now c.args.prefix.now c.in_ok-plan.plan c.args.world.now c.read_plan.new.world c.file_whole_run.new.world _ c.in_ok-plan.ensures.read c.in_ok-plan.ensures.planned c.in_ok-plan.ensures.free c.file_whole_run.ensures
