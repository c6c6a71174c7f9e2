use Rattle.std.proofs.Common.{◌<◌, length, rules}
use Rattle.run_endings.specs.Runs.{capture_files}
use Rattle.run_endings.specs.declared.endings.Ending.{Ending}
use Rattle.run_forms.proofs.FilesInTurn.{captures-next, captures-end, left-broken, left-none, on-err}
use Rattle.run_forms.proofs.outputs.file_captures.Goals as goal

pub returns-in_err-file_capture-clause-err : goal.returns-in_err-file_capture-clause-err
returns-in_err-file_capture-clause-err g c =
    let one : c.loop-k.k < length c.args.stations.now = search rules in
    let two : c.loop-k.k < length c.args.captures.now = search rules in
    let next = captures-next c.args.prefix.now c.args.stations.now c.args.captures.now c.loop-k.k c.index-stations-k.result c.index-captures-k.result one two c.index-stations-k.is c.index-captures-k.is in
    on-err Ending c.from_residual.result _
    (left-broken (capture_files c.args.prefix.now c.args.stations.now c.args.captures.now) _ _ _ c.args.world.now.held c.loop-k.world.held _ next c.loop-k.invariant.0 c.in_err-file_capture.ensures.err)

pub returns-clause-ok : goal.returns-clause-ok
returns-clause-ok g c =
    left-none (capture_files c.args.prefix.now c.args.stations.now c.args.captures.now) _ c.args.world.now.held c.loop-k.world.held
    (captures-end c.args.prefix.now c.args.stations.now c.args.captures.now c.loop-k.k (search rules)) c.loop-k.invariant.0
