use Rattle.std.proofs.Common.{ap}
use Rattle.exchange_core.specs.Shares.{Held}
use Rattle.worker_gate.proofs.KeptPlans.{nothing_planned}
use Rattle.worker_gate.proofs.desk.Segments.new.Goals as goal

pub invariant_of-result : goal.invariant_of-result
invariant_of-result g c = record { planned = nothing_planned g.P.Planned.plan c.new.result c.new.ensures; alone = ap (λ (s : Held). s.repeaters) c.new.ensures }
