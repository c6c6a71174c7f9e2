use Rattle.std.proofs.Common.{◌≡◌, ◌-◌, ◌≤◌}
use Rattle.network.specs.Net.{Net}
use Rattle.quiet_state.specs.Resumed.{later_net}
use Rattle.net_step.specs.KeptNet.{Stands}
use Rattle.net_step.proofs.plain.run_to.Given as goal

-- it stands for the network as many half bits later
abbrev pub invariant-loop-now : goal.invariant-loop-now
invariant-loop-now l = record {
  from : l.t ≤ l.now;
  within : l.now ≤ l.until;
  time : l.whole.t ≡ l.now;
  stands : (n : Net) → Stands n l.fn.whole → Stands (later_net n (l.now - l.t)) l.whole;
}

abbrev pub decreases-loop-now : goal.decreases-loop-now
decreases-loop-now l = l.until - l.now
