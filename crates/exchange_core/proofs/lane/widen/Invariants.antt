use Rattle.std.proofs.Common.{◌≡◌, ◌≤◌, ◌-◌, length}
use Rattle.std.specs.Prelude.{vec_len, vec_capacity}
use Rattle.exchange_core.specs.Shares.{widened}
use Rattle.exchange_core.proofs.lane.widen.Given as goal

abbrev pub invariant-loop-places : goal.invariant-loop-places
invariant-loop-places g l = record {
  same : l.places.items ≡ widened (vec_len l.places) l.initial.places.items;
  some : length l.initial.places.items ≤ vec_len l.places;
  few : vec_len l.places ≤ l.count;
  room : l.count ≤ vec_capacity l.places;
}

abbrev pub decreases-loop-places : goal.decreases-loop-places
decreases-loop-places g l = l.count - vec_len l.places
