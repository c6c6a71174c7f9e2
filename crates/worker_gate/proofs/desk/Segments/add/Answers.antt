use Rattle.std.proofs.Common.{◌≡◌, [], ap, ◌∙◌}
use Rattle.std.specs.Prelude.{Some}
use Rattle.load_plan.specs.declared.plan.Plan.{Plan}
use Rattle.exchange_core.specs.Holdings.{added_segment}
use Rattle.exchange_core.specs.Shares.{Held, rack, with_segment}
use Rattle.exchange_core.proofs.EitherAnswer.{on_either}
use Rattle.worker_gate.specs.PlannedShares.{IsPlannedShare}
use Rattle.worker_gate.proofs.KeptPlans.{opening_serves, segment_added, same_share}
use Rattle.worker_gate.proofs.desk.Segments.add.Goals as goal

pub add_segment-requires-clause-parcels : goal.add_segment-requires-clause-parcels
add_segment-requires-clause-parcels g c κs within =
    let part = c.args.part in
    opening_serves (g.S.Part.plan part) c.args.plan.now (g.S.Part.number part) c.part-number.result (g.S.Part.at part) c.in_ok-parcels.parcels
    c.in_ok-parcels.ensures c.requires.plan c.part-number.ensures c.requires.start

pub invariant_of-self : goal.invariant_of-self
invariant_of-self g c =
    let part = c.args.part in
    let old = c.args.self.now.share in
    let new = c.add_segment.new.self in
    let h = added_segment (g.S.Part.plan part) (g.S.Part.number part) (g.S.Part.at part) c.in_ok-parcels.parcels in
    let of = ap (λ (plan : Plan). Some plan) c.requires.plan ∙ c.requires.boxed in
    record {
      planned = on_either c.add_segment.result (new ≡ with_segment h old) (new ≡ old) (IsPlannedShare g.P.Planned.plan new) c.add_segment.ensures.ok c.add_segment.ensures.err
          (segment_added g.P.Planned.plan h old of c.args.self.now.planned new)
          (same_share g.P.Planned.plan old new c.args.self.now.planned);
      alone = on_either c.add_segment.result (new ≡ with_segment h old) (new ≡ old) (new.repeaters ≡ rack [] []) c.add_segment.ensures.ok c.add_segment.ensures.err
          (λ is. ap (λ (s : Held). s.repeaters) is ∙ c.args.self.now.alone)
          (λ is. ap (λ (s : Held). s.repeaters) is ∙ c.args.self.now.alone);
    }
