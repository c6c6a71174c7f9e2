use Rattle.std.proofs.Common.{◌≡◌, drop}
use Rattle.load_plan.specs.Loads.{earlier_of, least_of}
use Rattle.load_plan.proofs.loads.least_of.Given as goal

-- the least so far and the least of the rest are the least of all
abbrev pub invariant-loop-record : goal.invariant-loop-record
invariant-loop-record l = earlier_of l.least (least_of (drop l.record-index l.records)) ≡ least_of l.records
