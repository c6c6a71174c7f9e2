use Rattle.run_endings.proofs.DetectedInTheLog.{are_detected}
use Rattle.program_endings.proofs.laws.run_collisions_are_detected.Goals as goal

pub returns : goal.returns
returns c = are_detected
