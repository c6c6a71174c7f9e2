use Rattle.std.proofs.Common.{◌≡◌, ap, ◌∙◌}
use Rattle.std.specs.Prelude.{Some}
use Rattle.load_plan.specs.declared.plan.Plan.{Plan}
use Rattle.exchange_core.specs.Holdings.{added_repeater}
use Rattle.exchange_core.specs.Shares.{with_repeater}
use Rattle.exchange_core.proofs.EitherAnswer.{on_either}
use Rattle.worker_gate.specs.PlannedShares.{IsPlannedShare}
use Rattle.worker_gate.proofs.KeptPlans.{repeater_added, same_share}
use Rattle.worker_gate.proofs.desk.Desk.add_repeater.Goals as goal

pub invariant_of-self : goal.invariant_of-self
invariant_of-self g c =
    let part = c.args.part in
    let old = c.args.self.now.share in
    let new = c.add_repeater.new.self in
    let h = added_repeater (g.R.Part.plan part) (g.R.Part.number part) (g.R.Part.at part) in
    let of = ap (λ (plan : Plan). Some plan) c.requires.plan ∙ c.requires.boxed in
    record {
      planned = on_either c.add_repeater.result (new ≡ with_repeater h old) (new ≡ old) (IsPlannedShare g.P.Planned.plan new) c.add_repeater.ensures.ok c.add_repeater.ensures.err
          (repeater_added g.P.Planned.plan h old of c.args.self.now.planned new)
          (same_share g.P.Planned.plan old new c.args.self.now.planned);
    }
