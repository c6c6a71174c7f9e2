use Rattle.std.proofs.Common.{◌≡◌, ◌+◌, ◌-◌, ◌≤◌, length}
use Rattle.net_parts.specs.Standing.{repeater_at}
use Rattle.repeater_engine.specs.KeptRepeaters.{parcels_after}
use Rattle.repeater_engine.specs.RowWaits.{HasRowRoom}
use Rattle.repeater_engine.proofs.late.make_window.Given as goal

abbrev pub decreases-loop-k : goal.decreases-loop-k
decreases-loop-k l = l.n - l.k

-- the repeater stands k half bits later, its parcels are refilled as far, and there is room for the rest of the window
abbrev pub invariant-loop-k : goal.invariant-loop-k
invariant-loop-k l = record {
  within : l.k ≤ l.n;
  device : l.engine.device ≡ l.fn.engine.device;
  stands : l.engine.state ≡ repeater_at l.plan.value l.repeater (l.fn.engine.state.t + l.k);
  room : HasRowRoom (length l.engine.state.repeater.guards) (l.n - l.k) l.engine.room l.engine.state.repeater;
  parcels : l.parcels ≡ parcels_after l.plan.value l.repeater l.window l.fn.engine.state.t l.n l.k;
}
