use Rattle.frame_table.proofs.ToldSteps.{ArePorts}
use Rattle.frame_table.proofs.told.all_ports.Given as goal

abbrev pub invariant-loop-r : goal.invariant-loop-r
invariant-loop-r l = ArePorts l.layout l.events l.r l.ports.items
