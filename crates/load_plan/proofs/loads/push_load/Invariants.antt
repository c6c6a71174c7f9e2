use Rattle.std.proofs.Common.{◌≡◌, ◌≤◌, ◌+◌, ◌++◌, List, length, drop}
use Rattle.frame_layout.specs.Queue.{IsNotBelowLast}
use Rattle.load_plan.specs.Loads.{Offer, offers_of_load, raised}
use Rattle.load_plan.proofs.loads.push_load.Given as goal

-- the records so far are queued, and the rest still is to be, and whatever follows it
abbrev pub invariant-loop-record : goal.invariant-loop-record
invariant-loop-record l = record {
  few : length l.queue ≤ length l.initial.queue + l.record-index;
  order : IsNotBelowLast l.queue l.last;
  queued : (more : List Offer) → l.queue ++ raised l.last (offers_of_load l.start l.most (drop l.record-index l.records) ++ more) ≡ l.initial.queue ++ raised l.before (offers_of_load l.start l.most l.records ++ more);
}
