use Rattle.std.proofs.Common.{[], get_or, sym, subst, ap, ◌∙◌, rules}
use Rattle.load_plan.specs.declared.plan.Plan.{Plan}
use Rattle.network.proofs.RunnablePlans.{runnable_plan}
use Rattle.net_parts.specs.Windows.{time}
use Rattle.net_parts.specs.RepeaterParts.{RepeaterState}
use Rattle.repeater_core.specs.Step.{new_state}
use Rattle.repeater_engine.specs.KeptRepeaters.{StandsAt}
use Rattle.repeater_engine.proofs.RepeatersAsParts.{at_first}
use Rattle.repeater_engine.proofs.part.RepeaterPart.paced.Goals as goal

pub half_bits-requires : goal.half_bits-requires
half_bits-requires c = (runnable_plan c.args.plan.now).short

pub invariant_of-result-clause-stands : goal.invariant_of-result-clause-stands
invariant_of-result-clause-stands c =
    let plan = c.args.plan.now in
    let r = c.index-as_slice-repeater.result in
    let e = c.in_ok-engine.engine in
    subst (λ (p : Plan). StandsAt p c.args.repeater (time p 0) e) (sym c.of.ensures) (record {
      device = search rules;
      state =
          c.in_ok-engine.ensures.state
          ∙ ap (λ m. let s : RepeaterState = record { t = 0; repeater = new_state m r.delay; rows = [] } in s) c.len-3.ensures
          ∙ at_first plan c.args.repeater r c.requires.within (c.index-as_slice-repeater.is ∙ ap (λ xs. get_or xs c.args.repeater r) c.as_slice.ensures);
    })
