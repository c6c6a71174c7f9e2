use Rattle.std.proofs.Common.{Ok}
use Rattle.log_meter.specs.LoggedRows.{logged_lines}
use Rattle.load_plan.proofs.PlansAreSound.{sound_of_plan}
use Rattle.network.specs.Outputs.{rows}
use Rattle.log_meter.proofs.PlannedRows.{planned_rows}
use Rattle.log_meter.proofs.RowsRead.{rows_are_log}
use Rattle.log_meter.proofs.LinesApart.{only_judgement}
use Rattle.log_meter.proofs.log.read_log.Goals as goal

pub returns-clause-only : goal.returns-clause-only
returns-clause-only c judged is _ = only_judgement c.args.bytes.now c.lines.result c.lines.ensures judged is

pub returns-clause-rows : goal.returns-clause-rows
returns-clause-rows c layout rows sound loggable is _ =
    only_judgement c.args.bytes.now c.lines.result c.lines.ensures (Ok (logged_lines layout rows)) (rows_are_log layout rows c.args.bytes.now sound loggable is)

pub returns-clause-plans : goal.returns-clause-plans
returns-clause-plans c plan is _ =
    only_judgement c.args.bytes.now c.lines.result c.lines.ensures (Ok (logged_lines plan.layout (rows plan)))
    (rows_are_log plan.layout (rows plan) c.args.bytes.now (sound_of_plan plan) (planned_rows plan) is)
