use Rattle.std.proofs.Common.{◌∙◌}
use Rattle.std.proofs.Math.Seq.{map-set_same}
use Rattle.worker_gate.proofs.worker.turn_all.Goals as goal

pub loop-kit-preserved : goal.loop-kit-preserved
loop-kit-preserved g c =
    let kits = c.loop-kit.kits in
    let i = c.loop-kit.kit-index in
    let kit = c.kit-item.result in
    let new = c.turn-goes.new.self in (
      map-set_same (λ k. k.windows) kits i new kit c.turn-goes.ensures.windows ∙ c.loop-kit.invariant.0,
      map-set_same (λ k. k.duties) kits i new kit c.turn-goes.ensures.duties ∙ c.loop-kit.invariant.1,
    )
