use Rattle.std.specs.Prelude.{Ok}
use Rattle.net_parts.specs.Parcels.{arrived}
use Rattle.exchange_core.specs.Holdings.{added_segment}
use Rattle.worker_gate.proofs.FreeNumbers.{segment_from}
use Rattle.worker_gate.proofs.crew.deal_segments.Goals as goal

pub loop-i-preserved : goal.loop-i-preserved
loop-i-preserved g c =
    let part = c.in_ok-part.part in
    let h = added_segment (g.S.Part.plan part) (g.S.Part.number part) (g.S.Part.at part) (arrived c.args.plan.now (g.S.Part.number part) 0) in
    let made = c.requires.segments.made c.loop-i.i (Ok part) c.in_ok-part.ensures in
    segment_from h 0 c.loop-i.i c.loop-i.segments.share c.add.new.self.share c.in_ok-add.ensures.ok made.1 c.loop-i.invariant
