use Rattle.std.proofs.Common.{◌+◌, ◌-◌, false, List, length, get_or, sym, ap, ◌∙◌, arith, rules}
use Rattle.std.specs.Vec.{with_items}
use Rattle.std.proofs.lemmas.List.{with_items_is}
use Rattle.manchester_line.specs.Decoding.{new_decoding}
use Rattle.mac_receive.specs.KeptReceiver.{KeptReception}
use Rattle.net_parts.specs.SegmentParts.{wiring}
use Rattle.network.specs.Attempts.{sender_at}
use Rattle.tap_lines.specs.TapLines.{TapLine, forgotten}
use Rattle.segment_engine.specs.StationsApart.{StandAllApart}
use Rattle.segment_engine.proofs.PassedStations.{calm_settled, rest_settled}
use Rattle.segment_engine.proofs.RoomOfLines.{fits_of, keeps_of}
use Rattle.segment_engine.proofs.SettledLines.{HaveForgotten, end_settled, have_forgotten, hear_settled, idle_settled, known_settled, near_of, reach_settled, room_settled, stand_settled}
use Rattle.segment_engine.proofs.apart.settle.Goals.{After-forget_all}
use Rattle.segment_engine.proofs.apart.settle.Goals as goal

abbrev a_kept : KeptReception
a_kept = record { lose = 0; most = 0; deaf = false; halves = 0; decoder = new_decoding; steps = 0 }

pub forget_all-requires-clause-in_time : goal.forget_all-requires-clause-in_time
forget_all-requires-clause-in_time c =
    rw c.deref_mut.ensures.value (λ r d h. fits_of c.args.of.now c.args.front c.args.state.now c.requires.goes r d h c.requires.in_time)

pub forget_all-requires-clause-keeps : goal.forget_all-requires-clause-keeps
forget_all-requires-clause-keeps c = rw c.deref_mut.ensures.value (keeps_of c.args.of.now c.args.front c.args.state.now c.requires.goes)

-- the stations, when they have come to the present half bit
apart : (c : After-forget_all) → StandAllApart c.args.of.now c.args.state.now.from c.args.state.now.t c.args.state.now.lines.items c.bring_all.new.watches c.bring_all.new.senders c.bring_all.new.receivers
apart c = rw (← c.deref-2.ensures.value) c.bring_all.ensures.apart

-- the lines, when they have forgotten what they needn't keep
forgot : (c : After-forget_all) → HaveForgotten c.args.state.now.t c.args.state.now.lines.items c.forget_all.new.lines
forgot c =
    let a = c.args.state.now in
    let g = c.args.of.now in
    let at = c.requires.goes in
    have_forgotten g.plan.value (wiring g.plan.value.layout g.number) g.lookahead a.t c.args.front a.from a.lines.items c.forget_all.new.lines at.lines at.upto at.room (c.forget_all.auto.lines ∙ ap length c.deref_mut.ensures.value)
    (λ r d h. c.forget_all.ensures r d h ∙ ap (λ (xs : List TapLine). forgotten a.t (get_or xs r d)) c.deref_mut.ensures.value)

pub returns-clause-goes : goal.returns-clause-goes
returns-clause-goes c =
    let a = c.args.state.now in
    let g = c.args.of.now in
    let plan = g.plan.value in
    let w = wiring plan.layout g.number in
    let at = c.requires.goes in
    let ls = a.lines.items in
    let new = c.forget_all.new.lines in
    let ws = c.bring_all.new.watches in
    let ss = c.bring_all.new.senders in
    let ks = c.bring_all.new.receivers in
    let upto = at.upto in
    let there = (goal.at.returns-clause-goes c).After-forget_all in
    let is = forgot there in
    let lines = with_items_is a.lines new (search rules) in
    let watches = with_items_is a.watches ws (search rules) in
    let senders = with_items_is a.senders ss (search rules) in
    let receivers = with_items_is a.receivers ks (search rules) in
    let same = sym (ap length lines ∙ is.many) in
    record {
      begun = omega arith;
      upto = at.upto;
      stations = rw (lines, watches, senders, receivers)
          (stand_settled a.t ls new is g a.from ws ss ks (apart there) c.bring_all.ensures.since (near_of plan w g.lookahead a.t c.args.front ls at.lines));
      still = rw (watches, senders, receivers) c.bring_all.ensures.still;
      lines = rw lines (known_settled a.t ls new is plan w g.lookahead c.args.front at.lines);
      ends = rw lines (λ p h.
          let many = at.lines.many in
          let numbers = ap length g.station_numbers in
          let end = at.ends p h in
          let later = end_settled a.t ls new is (length g.stations.items + p) (omega (arith, h, many, numbers)) in
          omega (arith, later, end, upto));
      hears = hear_settled g a.t (with_items a.lines new).items;
      logged = at.logged;
      kept = at.kept;
      room = rw lines (room_settled a.t ls new is a.from g.lookahead at.room);
      reach = rw lines (reach_settled a.t ls new is a.far g.lookahead at.reach);
      listing = at.listing ∙ same;
      late = c.find.ensures.room ∙ at.late ∙ same;
      piece = rw (with_items_is a.piece c.bring_all.new.piece (search rules)) (let size = c.bring_all.auto.piece ∙ ap length c.deref_mut-piece.ensures.value in let enough = at.piece in omega (arith, size, enough));
    }

pub returns-clause-quiet : goal.returns-clause-quiet
returns-clause-quiet c = λ m quiet.
    let a = c.args.state.now in
    let g = c.args.of.now in
    let at = c.requires.goes in
    let new = c.forget_all.new.lines in
    let ws = c.bring_all.new.watches in
    let ss = c.bring_all.new.senders in
    let ks = c.bring_all.new.receivers in
    let there = (goal.at.returns-clause-quiet c).After-forget_all in
    let lines = with_items_is a.lines new (search rules) in
    let watches = with_items_is a.watches ws (search rules) in
    let senders = with_items_is a.senders ss (search rules) in
    let receivers = with_items_is a.receivers ks (search rules) in
    let all = apart there in
    let many = all.senders in
    let ds = sender_at g.plan.value 0 0 in
    record {
      lines = rw lines (idle_settled a.t a.lines.items new (forgot there) (a.t - a.far) (omega arith) quiet.lines);
      idle = rw (watches, senders) (λ i x h early. let now = c.bring_all.ensures.since i x (omega (arith, h, many)) in absurd (omega (arith, now, early)));
      senders = rw (watches, senders) (calm_settled g a m c.args.front at quiet ds a_kept a.from a.lines.items ws ss ks all c.bring_all.ensures.since);
      receivers = rw receivers (rest_settled g a m c.args.front at quiet ds a_kept a.from a.lines.items ws ss ks all c.bring_all.ensures.since);
    }
