use Rattle.program_endings.proofs.InputsAreKept.{inputs_are_kept}
use Rattle.program_endings.proofs.laws.inputs_are_kept.Goals as goal

pub returns : goal.returns
returns c = inputs_are_kept
