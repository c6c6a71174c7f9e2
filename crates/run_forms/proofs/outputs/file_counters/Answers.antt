use Rattle.std.proofs.Common.{◌≡◌, rules}
use Rattle.run_endings.specs.declared.endings.Ending.{Ending}
use Rattle.run_texts.specs.Texts.{counters_of_rows}
use Rattle.program_texts.specs.Texts.{name_of_counters}
use Rattle.run_forms.proofs.FilesInTurn.{broken-same}
use Rattle.run_forms.proofs.outputs.file_counters.Goals as goal

pub returns-clause-err : goal.returns-clause-err
returns-clause-err g c =
    let name : c.as_str.result.now ≡ name_of_counters c.args.prefix.now = search rules in
    let text : c.as_slice-2.result.now ≡ counters_of_rows c.args.plan.now c.args.outputs.now.rows = search rules in
    broken-same Ending c.file.result _ (name_of_counters c.args.prefix.now) _ (counters_of_rows c.args.plan.now c.args.outputs.now.rows) c.args.world.now.held c.file.new.self.held name text c.file.ensures.err
