use Rattle.std.proofs.Common.{◌≡◌, drop}
use Rattle.load_plan.specs.Loads.{earlier_of, least_of_all}
use Rattle.load_plan.proofs.loads.start_of.Given as goal

-- the least so far and the least of the rest are the least of all
abbrev pub invariant-loop-load : goal.invariant-loop-load
invariant-loop-load l = earlier_of l.least (least_of_all (drop l.load-index l.all)) ≡ least_of_all l.all
