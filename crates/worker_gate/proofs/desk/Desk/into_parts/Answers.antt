use Rattle.worker_gate.proofs.GatheredParts.{all_planned}
use Rattle.worker_gate.proofs.desk.Desk.into_parts.Goals as goal

pub returns-clause-segments : goal.returns-clause-segments
returns-clause-segments g c =
    all_planned g.S.Part.plan g.S.Part.number g.S.Part.at g.P.Planned.plan c.args.self.share.segments c.args.self.planned.segments c.into_parts.result.0.items c.into_parts.ensures.segments

pub returns-clause-repeaters : goal.returns-clause-repeaters
returns-clause-repeaters g c =
    all_planned g.R.Part.plan g.R.Part.number g.R.Part.at g.P.Planned.plan c.args.self.share.repeaters c.args.self.planned.repeaters c.into_parts.result.1.items c.into_parts.ensures.repeaters
