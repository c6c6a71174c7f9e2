use Rattle.crossbeam_queue.specs.Passes.{view}
use Rattle.worker_gate.specs.ReceivedParcels.{HasEmptied}
use Rattle.worker_gate.proofs.kit.take_all.Given as goal

-- what came so far is taken
abbrev pub invariant-loop-parcel : goal.invariant-loop-parcel
invariant-loop-parcel g l =
    HasEmptied g.P.Planned.plan l.came l.initial.desk.share l.desk.share (view l.initial.own.pass.pass) (view l.own.pass.pass)
