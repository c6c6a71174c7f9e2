use Rattle.repeater_engine.proofs.ClassesOfRows.{KeepFor}
use Rattle.repeater_engine.proofs.leaps.alike_ahead.Given as goal

abbrev pub invariant-loop-p : goal.invariant-loop-p
invariant-loop-p l = KeepFor l.parcels l.heard l.k l.most l.least l.p
