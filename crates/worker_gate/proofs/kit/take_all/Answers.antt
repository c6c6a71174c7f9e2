use Rattle.crossbeam_queue.specs.Passes.{view}
use Rattle.worker_gate.proofs.TakenParcels.{one_taken}
use Rattle.worker_gate.proofs.kit.take_all.Goals as goal

pub loop-parcel-preserved : goal.loop-parcel-preserved
loop-parcel-preserved g c =
    one_taken g.P.Planned.plan c.loop-parcel.came c.args.desk.now.share c.loop-parcel.desk.share c.take.new.self.share (view c.args.own.now.pass.pass) (view c.loop-parcel.own.pass.pass)
    (view c.try_receive.new.self.pass.pass) c.in-Some.parcel c.loop-parcel.invariant c.in-Some.ensures.honest c.take.ensures c.in-Some.ensures.lists
