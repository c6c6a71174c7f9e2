use Rattle.std.proofs.Common.{◌≡◌, rules}
use Rattle.run_endings.specs.declared.endings.Ending.{Ending}
use Rattle.program_texts.specs.Texts.{name_of_state}
use Rattle.run_checkpoint.specs.States.{text_of_state}
use Rattle.netsim.proofs.StopEnds.{of-plan}
use Rattle.run_forms.proofs.FilesInTurn.{broken-same}
use Rattle.netsim.proofs.stops.file_state.Goals as goal

pub returns-clause-err : goal.returns-clause-err
returns-clause-err g c =
    let name : c.as_str.result.now ≡ name_of_state c.args.prefix.now = search rules in
    let text : c.as_slice.result.now ≡ text_of_state c.args.plan.now c.args.state.now = search rules in
    broken-same Ending c.file.result _ (name_of_state c.args.prefix.now) _ (text_of_state c.args.plan.now c.args.state.now) c.args.world.now.held c.file.new.self.held name text c.file.ensures.err

pub state_text-requires : goal.state_text-requires
state_text-requires g c = of-plan c.args.plan.now c.args.state.now c.requires.quiet c.requires.at
