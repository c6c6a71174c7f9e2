use Rattle.std.proofs.Common.{◌≡◌, true, drop}
use Rattle.std.specs.List.{list_all}
use Rattle.std.specs.Prelude.{nat_le}
use Rattle.run_picture.specs.Axis.{first_step}
use Rattle.run_picture.proofs.axis.first_step.Given as goal

abbrev pub invariant-loop-step : goal.invariant-loop-step
invariant-loop-step l =
    record {
      so_far : first_step (drop l.step-index l.steps) l.width ≡ first_step l.steps l.width;
      rest : list_all (λ step. nat_le 1 step) (drop l.step-index l.steps) ≡ true;
    }
