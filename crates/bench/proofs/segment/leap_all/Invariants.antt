use Rattle.std.proofs.Common.{◌≡◌, ◌≤◌}
use Rattle.bench.proofs.segment.leap_all.Given as goal

abbrev pub invariant-loop-leap : goal.invariant-loop-leap
invariant-loop-leap l = record { now : l.sender.t ≡ l.t; within : l.t ≤ l.at }
