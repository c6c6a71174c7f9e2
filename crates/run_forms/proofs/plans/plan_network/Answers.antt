use Rattle.run_forms.proofs.plans.plan_network.Goals as goal

pub returns-clause-planned : goal.returns-clause-planned
returns-clause-planned g c =
    record {
      layout = c.in_ok-plan.ensures.layout;
      loads = c.in_ok-loads.loads;
      loaded = c.in_ok-loads.ensures.loaded;
      queues = c.in_ok-plan.ensures.queues;
      skips = c.in_ok-plan.ensures.skips;
    }
