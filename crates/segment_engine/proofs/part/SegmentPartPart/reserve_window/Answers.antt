use Rattle.std.proofs.Common.{◌≡◌, ◌+◌, ◌*◌, length, subst, arith}
use Rattle.net_parts.specs.Parts.{part_at}
use Rattle.net_parts.proofs.LookaheadLeads.{few_lookahead}
use Rattle.window_room.specs.NeededRoom.{Covers, demand_times, station_demand}
use Rattle.segment_engine.specs.KeptParts.{KeepsSegment}
use Rattle.segment_engine.specs.RunningStates.{IsRunningAt}
use Rattle.segment_engine.proofs.HandedOut.{running_room, kept_room}
use Rattle.segment_engine.proofs.KeptParts.{covers_kept, other_proofs}
use Rattle.segment_engine.proofs.ReservedRoom.{room_reserved}
use Rattle.segment_engine.proofs.part.SegmentPartPart.reserve_window.Goals as goal

pub overflow_add-self : goal.overflow_add-self
overflow_add-self c =
    let few = few_lookahead c.args.self.now.segment.plan.value.layout in
    let long = c.args.self.now.segment.window_length in
    omega (arith, few, long)

pub invariant_of-self-2 : goal.invariant_of-self-2
invariant_of-self-2 c =
    let x = c.args.self.now in
    let g = x.segment in
    let a = x.state in
    let new = c.reserve_stations.new.room in
    let same = c.reserve_stations.ensures.same in
    let n = g.lookahead + 2048 in
    let near = x.stands.near in
    let stations : c.len.result ≡ length g.stations.items = let m = c.len.ensures in omega (arith, m) in
    record {
      stands = other_proofs (λ s. IsRunningAt s (x.window * g.lookahead) (record a { room = new })) g _ _ _ _ _ _ _ (running_room g (x.window * g.lookahead) a new same.same_rows same.same_captures x.stands);
      at_time = x.at_time;
      octets = x.octets;
      last = x.last;
      room = λ h. room_reserved g a.from a.t (a.t + g.lookahead) n a.lines.items a.watches.items a.senders.items a.receivers.items new x.stands.goes.stations (omega (arith, near))
          (subst (λ m. Covers (demand_times (length g.stations.items) (station_demand m n)) new) x.octets
          (subst (λ k. Covers (demand_times k (station_demand x.most n)) new) stations c.in_ok-reserve_stations.ensures.room));
      kept = other_proofs (λ s. KeepsSegment s (record a { room = new }) (part_at s.plan.value s.number x.window)) g _ _ _ _ _ _ _ (kept_room g x.window a new same.same_rows same.same_captures x.kept);
    }

-- where there is no memory, what is kept is as before
pub invariant_of-self-in-Break-1 : goal.invariant_of-self-in-Break-1
invariant_of-self-in-Break-1 c =
    let x = c.args.self.now in
    let g = x.segment in
    let a = x.state in
    let new = c.reserve_stations.new.room in
    let same = c.reserve_stations.ensures.same in
    record {
      stands = other_proofs (λ s. IsRunningAt s (x.window * g.lookahead) (record a { room = new })) g _ _ _ _ _ _ _ (running_room g (x.window * g.lookahead) a new same.same_rows same.same_captures x.stands);
      at_time = x.at_time;
      octets = x.octets;
      last = x.last;
      room = λ h. λ w s k. covers_kept _ a.room new c.reserve_stations.ensures.kept (x.room h w s k);
      kept = other_proofs (λ s. KeepsSegment s (record a { room = new }) (part_at s.plan.value s.number x.window)) g _ _ _ _ _ _ _ (kept_room g x.window a new same.same_rows same.same_captures x.kept);
    }
