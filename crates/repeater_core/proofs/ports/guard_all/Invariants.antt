use Rattle.std.proofs.Common.{◌≡◌, ◌+◌, ◌<◌, ◌^◌, ◌++◌, length, map, take, drop}
use Rattle.repeater_core.specs.Step.{guards_after, guard_events, is_closing, is_opening, mask_from}
use Rattle.repeater_core.proofs.ports.guard_all.Given as goal

-- the guards below k have stepped, and the rest have not
abbrev pub invariant-loop-k : goal.invariant-loop-k
invariant-loop-k l =
    let rest = guard_events (drop l.k l.guards) (drop l.k l.hears) (drop l.k l.emits) in
    let all = guard_events l.fn.guards l.hears l.emits in
    record {
      len : length l.guards ≡ length l.hears;
      states : take l.k l.guards ++ guards_after (drop l.k l.guards) (drop l.k l.hears) (drop l.k l.emits) ≡ guards_after l.fn.guards l.hears l.emits;
      closed_below : l.closed < 2 ^ l.k;
      opened_below : l.opened < 2 ^ l.k;
      closings : l.closed + mask_from l.k (map is_closing rest) ≡ mask_from 0 (map is_closing all);
      openings : l.opened + mask_from l.k (map is_opening rest) ≡ mask_from 0 (map is_opening all);
    }
