use Rattle.std.proofs.Common.{◌≡◌, map, take}
use Rattle.load_plan.specs.Loads.{skips_of}
use Rattle.load_plan.proofs.make.skips_of_loads.Given as goal

abbrev pub invariant-loop-load : goal.invariant-loop-load
invariant-loop-load l = l.skips ≡ map (skips_of l.most) (take l.load-index l.loads)
