use Rattle.std.proofs.Common.{length}
use Rattle.run_checkpoint.proofs.EntriesSteps.{SoFar}
use Rattle.run_checkpoint.proofs.entries_read.judged_entries.Given as goal

abbrev pub invariant-loop-rest : goal.invariant-loop-rest
invariant-loop-rest l = SoFar l.plan l.t l.senders l.first l.octets l.told l.number l.rest

abbrev pub decreases-loop-rest : goal.decreases-loop-rest
decreases-loop-rest l = length l.rest
