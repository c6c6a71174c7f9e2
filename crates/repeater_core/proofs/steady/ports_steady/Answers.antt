use Rattle.std.proofs.Common.{arith}
use Rattle.repeater_core.proofs.SteadyCount.{ports_most}
use Rattle.repeater_core.proofs.steady.ports_steady.Goals as goal

pub loop-k-init : goal.loop-k-init
loop-k-init c = let most = ports_most c.args.mode 0 c.args.counts.now in record { so_far = omega arith; at_most = omega arith; within = λ q b. absurd (omega arith) }
