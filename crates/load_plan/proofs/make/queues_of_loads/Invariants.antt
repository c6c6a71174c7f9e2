use Rattle.std.proofs.Common.{◌≡◌, ◌++◌, length, drop}
use Rattle.load_plan.specs.Loads.{queues_from}
use Rattle.load_plan.proofs.make.queues_of_loads.Given as goal

-- the queues so far and those of the rest are all
abbrev pub invariant-loop-station : goal.invariant-loop-station
invariant-loop-station l = record {
  count : length l.queues ≡ l.station;
  queues : l.queues ++ queues_from l.start l.most l.sends l.station (drop l.station l.loads) ≡ queues_from l.start l.most l.sends 0 l.loads;
}
