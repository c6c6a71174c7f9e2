use Rattle.std.proofs.Common.{◌≡◌, ◌+◌, ◌<◌, ◌≤◌, ℕ, List, [], All, map, replicate, length, sym, subst, ap, ◌∙◌, arith, rules}
use Rattle.load_plan.specs.declared.plan.Plan.{Plan}
use Rattle.network.specs.Attempts.{sender_at}
use Rattle.kept_devices.specs.KeptReceivers.{AllHear}
use Rattle.net_parts.specs.Standing.{receiver_at}
use Rattle.net_parts.specs.SegmentParts.{wiring}
use Rattle.tap_lines.specs.TapLines.{TapLine, IsReachOf}
use Rattle.segment_engine.specs.declared.apart.Watch.{Watch}
use Rattle.segment_engine.specs.declared.segment.Segment.{Segment}
use Rattle.segment_engine.specs.NewLines.{new_watch}
use Rattle.segment_engine.specs.StationsApart.{AreStill, StandAllApart}
use Rattle.segment_engine.proofs.Beginnings.{stations_within, stand_new, still_new, hear_new, no_captures}
use Rattle.segment_engine.proofs.start.start.Goals as goal

-- the numbers of the segment's stations are those of stations of the plan
all_stations : (g : Segment) (plan : Plan) (ks : List ℕ) → g.plan.value ≡ plan → ks ≡ g.stations.items → All (λ k. k < length plan.layout.stations) ks
all_stations g plan ks same is =
    subst (All (λ k. k < length plan.layout.stations)) (sym (is ∙ g.station_numbers ∙ ap (λ (p : Plan). (wiring p.layout g.number).stations) same)) (stations_within plan g.number)

pub senders_of-requires : goal.senders_of-requires
senders_of-requires c = all_stations c.args.of.now c.args.plan.now c.deref.result.now c.requires c.deref.ensures.value

pub receivers_of-requires : goal.receivers_of-requires
receivers_of-requires c = all_stations c.args.of.now c.args.plan.now c.deref-2.result.now c.requires c.deref-2.ensures.value

pub returns-clause-at : goal.returns-clause-at
returns-clause-at c =
    let of = c.args.of.now in
    let n = length of.stations.items in
    let ls = c.in_ok-lines.lines.items in
    let ss = c.in_ok-senders.senders.items in
    let ks = c.in_ok-receivers.receivers.items in
    let ws = c.in_ok-watches.watches.items in
    let many : c.len-stations.result ≡ n = let m = c.len-stations.ensures in omega (arith, m) in
    let taps : c.len.result ≡ length ls = search rules in
    let know = c.in_ok-lines.ensures.know in
    let size = know.many in
    let numbers = ap length of.station_numbers in
    let enough : n ≤ length ls = omega (arith, size, numbers) in
    let senders : ss ≡ map (λ k. sender_at of.plan.value k 0) of.stations.items =
    subst (λ (p : Plan). ss ≡ map (λ k. sender_at p k 0) of.stations.items) (sym c.requires)
    (c.in_ok-senders.ensures ∙ ap (map (λ k. sender_at c.args.plan.now k 0)) c.deref.ensures.value) in
    let receivers : AllHear (map (λ k. receiver_at of.plan.value k 0) of.stations.items) ks =
    subst (λ (p : Plan). AllHear (map (λ k. receiver_at p k 0) of.stations.items) ks) (sym c.requires)
    (subst (λ xs. AllHear (map (λ k. receiver_at c.args.plan.now k 0) xs) ks) c.deref-2.ensures.value c.in_ok-receivers.ensures.receivers) in
    let steps = c.in_ok-receivers.ensures.steps in
    let empty = c.in_ok-lines.ensures.empty in
    let watches : replicate n new_watch ≡ ws = sym (c.in_ok-watches.ensures ∙ ap (λ m. replicate m new_watch) many) in
    let room = c.in_ok-room.ensures in
    record {
      goes = record {
        begun = omega arith;
        upto = omega arith;
        stations = subst (λ (xs : List Watch). StandAllApart of 0 0 ls xs ss ks) watches (stand_new of ls ss ks senders receivers steps empty enough);
        still = subst (λ (xs : List Watch). AreStill of xs ss ks) watches (still_new of ls ss ks senders receivers steps empty enough);
        lines = know;
        ends = λ p h.
            let there : n + p < length ls = omega (arith, h, size, numbers) in
            let first = empty.from_first (n + p) there in
            let none = ap length (empty.empty (n + p) there) in
            omega (arith, first, none);
        hears = hear_new of ls ss ks senders receivers steps empty enough;
        logged = room.rows;
        kept = room.captures ∙ ap (λ m. replicate m []) many ∙ no_captures of.plan.value of.stations.items;
        room = c.in_ok-lines.ensures.room;
        reach = subst (λ (xs : List TapLine). IsReachOf c.farthest.result of.lookahead xs) c.deref-3.ensures.value c.farthest.ensures;
        listing = c.in_ok-silence.ensures.loud ∙ taps;
        late = c.in_ok-silence.ensures.late ∙ taps;
        piece = c.in_ok-silence.ensures.piece;
      };
      near = omega arith;
    }
