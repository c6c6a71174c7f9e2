use Rattle.std.proofs.Common.{rules, ◌≡◌, Err}
use Rattle.run_endings.specs.Runs.{IsSummaryOver, output_files}
use Rattle.run_forms.proofs.RunEnds.{run-filed, run-unfiled}
use Rattle.run_forms.proofs.runs.file_run.Goals as goal

pub returns : goal.returns
returns g c =
    run-filed (output_files c.args.prefix.now c.args.plan.now c.args.outputs.now.rows c.args.outputs.now.captures) (IsSummaryOver c.args.plan.now c.args.outputs.now.rows) c.args.world.now c.file_outputs.new.world c.tell.new.self _
    c.in_ok-summary.summary _ c.file_outputs.ensures.only c.in_ok-file_outputs.ensures.ok c.in_ok-summary.ensures c.as_slice.ensures c.tell.ensures.told

pub returns-in_err-file_outputs : goal.returns-in_err-file_outputs
returns-in_err-file_outputs g c =
    let end = run-unfiled (output_files c.args.prefix.now c.args.plan.now c.args.outputs.now.rows c.args.outputs.now.captures) (IsSummaryOver c.args.plan.now c.args.outputs.now.rows) c.args.world.now c.file_outputs.new.world c.in_err-file_outputs.field-0.0
    c.in_err-file_outputs.ensures.err c.in_err-file_outputs.ensures.ended c.file_outputs.ensures.only in
    let stopped : c.from_residual-in_err-file_outputs.result ≡ Err c.in_err-file_outputs.field-0.0 = search rules in
    rw stopped end
