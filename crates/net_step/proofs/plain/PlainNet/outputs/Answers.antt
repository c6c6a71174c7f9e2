use Rattle.std.proofs.Common.{length, ap, arith}
use Rattle.net_step.proofs.plain.PlainNet.outputs.Goals as goal

pub ended-requires : goal.ended-requires
ended-requires c = let few = c.self.invariant.few_devices in let all = ap length c.deref.ensures.value in omega (arith, few, all)
