use Rattle.std.proofs.Common.{◌≡◌, ◌≤◌, ◌+◌, ◌++◌, length, drop}
use Rattle.frame_layout.specs.Queue.{IsNotBelowLast}
use Rattle.load_plan.specs.Loads.{offers_of_sends, raised}
use Rattle.load_plan.proofs.loads.push_sends.Given as goal

-- the sends so far are queued, and the rest still is to be
abbrev pub invariant-loop-send : goal.invariant-loop-send
invariant-loop-send l = record {
  few : length l.queue ≤ length l.initial.queue + l.send-index;
  order : IsNotBelowLast l.queue l.last;
  queued : l.queue ++ raised l.last (offers_of_sends l.station (drop l.send-index l.sends)) ≡ l.initial.queue ++ raised l.before (offers_of_sends l.station l.sends);
}
