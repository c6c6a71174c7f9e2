use Rattle.std.proofs.Common.{◌≡◌, ◌+◌, ◌*◌, ◌<◌, ◌≤◌, length, get_or, sym, subst, ap, ◌∙◌, arith, rules}
use Rattle.std.proofs.lemmas.List.{length-map, with_items_is}
use Rattle.net_parts.specs.Machines.{span}
use Rattle.net_parts.specs.SegmentParts.{wiring}
use Rattle.net_parts.specs.Standing.{arrives}
use Rattle.net_parts.proofs.RepeaterSteps.{length-span}
use Rattle.tap_lines.specs.TapLines.{TapLine, no_line, line_extended}
use Rattle.segment_engine.specs.KnownLines.{KnowLines}
use Rattle.segment_engine.specs.PartStates.{half_filled}
use Rattle.segment_engine.specs.StationsApart.{AreToldAnew, number_on}
use Rattle.segment_engine.proofs.ArrivedLines.{HaveArrived, ends_arrived, known_arrived, next_arrived, told_arrived}
use Rattle.segment_engine.proofs.ChangedLines.{hears_anew}
use Rattle.segment_engine.proofs.PortsOfRunning.{came_symbols, port_ends, port_room, watch_fits}
use Rattle.segment_engine.proofs.RoomOfLines.{room_anew}
use Rattle.segment_engine.proofs.RunsApart.{reach_anew}
use Rattle.segment_engine.proofs.apart.arrive.Goals as goal

pub arrive_one-requires-clause-room : goal.arrive_one-requires-clause-room
arrive_one-requires-clause-room c =
    let g = c.args.of.now in
    let a = c.args.state.now in
    let plan = g.plan.value in
    let w = wiring plan.layout g.number in
    let p = c.loop-p.p in
    let test = c.loop-p-test.true in
    let small = c.requires.in_time in
    let n = length-map w.edges (half_filled plan g.lookahead c.args.window 0) in
    let size = ap length c.requires.parcels in
    let in_it : p < length w.edges = omega (arith, test, n, size) in
    let numbers = ap length g.station_numbers in
    let counted = c.len-from.ensures in
    let there : length w.stations + p ≡ c.len-from.result + p = omega (arith, numbers, counted) in
    let room = port_room g a (c.args.window * g.lookahead) c.requires.at c.requires.time (omega (arith, small)) p in_it in
    let same = ap (λ (l : TapLine). l.room) (c.loop-p.invariant.came.left p (omega arith)) in
    let came = came_symbols plan g.lookahead c.args.window a.t p w.edges c.args.parcels.now c.index-parcels-p.result c.requires.time c.requires.parcels test in
    let many = length-span (arrives plan g.lookahead (get_or w.edges p 0)) a.t g.lookahead in
    let long : length c.as_slice.result.now ≡ g.lookahead = ap length c.as_slice.ensures ∙ ap length came ∙ many in
    subst (λ i. length c.as_slice.result.now ≤ (get_or c.loop-p.lines i no_line).room) there (omega (arith, room, same, long))

pub arrive_one-requires-clause-watched : goal.arrive_one-requires-clause-watched
arrive_one-requires-clause-watched c = λ i w h.
    let g = c.args.of.now in
    let a = c.args.state.now in
    let inv = c.loop-p.invariant in
    let size = inv.watched in
    let small = c.requires.in_time in
    let before = inv.until i w h in
    let fits = watch_fits g a (c.args.window * g.lookahead) c.requires.at c.requires.time (omega (arith, small)) i w (omega (arith, h, size)) in
    omega (arith, before, fits)

pub loop-p-preserved : goal.loop-p-preserved
loop-p-preserved c =
    let g = c.args.of.now in
    let a = c.args.state.now in
    let plan = g.plan.value in
    let w = wiring plan.layout g.number in
    let k = c.loop-p.p in
    let ls = c.loop-p.lines in
    let ls' = c.arrive_one.new.lines in
    let inv = c.loop-p.invariant in
    let test = c.loop-p-test.true in
    let now = c.arrive_one.ensures in
    let numbers = ap length g.station_numbers in
    let counted = c.len-from.ensures in
    let st = c.requires.at.goes.stations in
    let watched = st.watches in
    let size = inv.watched in
    let new = c.arrive_one.auto.watches in
    let there : c.len-from.result + k ≡ length w.stations + k = omega (arith, numbers, counted) in
    let came = c.as_slice.ensures ∙ came_symbols plan g.lookahead c.args.window a.t k w.edges c.args.parcels.now c.index-parcels-p.result c.requires.time c.requires.parcels test in
    let own : get_or ls' (length w.stations + k) no_line ≡ line_extended (get_or ls (length w.stations + k) no_line) (span (arrives plan g.lookahead (get_or w.edges k 0)) a.t g.lookahead) =
    subst (λ i. get_or ls' i no_line ≡ line_extended (get_or ls i no_line) (span (arrives plan g.lookahead (get_or w.edges k 0)) a.t g.lookahead)) there
    (now.line ∙ ap (line_extended (get_or ls (c.len-from.result + k) no_line)) came) in
    record {
      came = next_arrived plan w g.lookahead a.t g.lookahead k a.lines.items ls ls' inv.came c.arrive_one.auto.lines own (λ q l e. now.others q l (λ z. e (z ∙ there)));
      watched = new ∙ size;
      stands = λ i x s r h. now.stands a.from i x (get_or a.senders.items i s) (get_or a.receivers.items i r) (omega (arith, h, watched, size)) (λ z. omega (arith, z, h, counted)) (inv.stands i x s r h);
      since = λ i x h. let in_it : i < length c.loop-p.watches = omega (arith, h, new) in now.since i x in_it ∙ inv.since i x in_it;
      carrier = λ i x h. let in_it : i < length c.loop-p.watches = omega (arith, h, new) in now.carrier i x in_it ∙ inv.carrier i x in_it;
      until = λ i x h. let in_it : i < length c.loop-p.watches = omega (arith, h, new) in let y = now.until i x in_it in let z = inv.until i x in_it in omega (arith, y, z);
    }

pub returns-clause-at : goal.returns-clause-at
returns-clause-at c =
    let g = c.args.of.now in
    let a = c.args.state.now in
    let plan = g.plan.value in
    let w = wiring plan.layout g.number in
    let L = g.lookahead in
    let t = a.t in
    let front = c.args.window * L in
    let ls = a.lines.items in
    let new = c.loop-p.lines in
    let ws = c.loop-p.watches in
    let at = c.requires.at.goes in
    let st = at.stations in
    let inv = c.loop-p.invariant in
    let last = c.loop-p-test.false in
    let upto = c.loop-p.auto.p-end in
    let small = c.requires.in_time in
    let time = c.requires.time in
    let n = length-map w.edges (half_filled plan L c.args.window 0) in
    let size = ap length c.requires.parcels in
    let all : c.loop-p.p ≡ length w.edges = omega (arith, last, upto, n, size) in
    let numbers = ap length g.station_numbers in
    let know : KnowLines plan w L t t ls = subst (λ f. KnowLines plan w L t f ls) (sym time) at.lines in
    let ends = port_ends g a front c.requires.at time (omega (arith, small)) in
    let room = port_room g a front c.requires.at time (omega (arith, small)) in
    let came : HaveArrived plan w L t L (length w.edges) ls new = subst (λ k. HaveArrived plan w L t L k ls new) all inv.came in
    let told : AreToldAnew t (length ls) ls new = told_arrived plan w L t L ls new know ends room came in
    let next : t + L ≡ (c.args.window + 1) * L = (let more : (c.args.window + 1) * L ≡ front + L = omega arith in omega (arith, more, time)) in
    let lines = with_items_is a.lines new (search rules) in
    let watches = with_items_is a.watches ws (search rules) in
    let watched = inv.watched in
    let were = st.watches in
    let taps = st.taps in
    let many = told.many in
    let same = sym (ap length lines ∙ many) in
    record {
      goes = record {
        begun = at.begun;
        upto = omega (arith, next);
        stations = rw (lines, watches) (record {
          senders = st.senders;
          receivers = st.receivers;
          watches = were ∙ sym watched;
          taps = omega (arith, taps, many);
          each = inv.stands;
        });
        still = rw watches (λ i x s k h below off.
            let there : i < length ws = omega (arith, h, were, watched) in
            let since = inv.since i x there in
            let until = inv.until i x there in
            at.still i x s k h (omega (arith, below, since, until)) (sym (inv.carrier i x there) ∙ off));
        lines = rw lines (subst (λ f. KnowLines plan w L t f new) next (known_arrived plan w L t L ls new know ends room came));
        ends = rw lines (λ p h.
            subst (λ i. (get_or new (i + p) no_line).base + length (get_or new (i + p) no_line).symbols ≡ (c.args.window + 1) * L) (sym numbers)
            (ends_arrived plan w L t L ls new know ends room came p h ∙ next));
        hears = rw lines (λ i h. hears_anew plan (number_on g i) i L a.from t (length ls) ls new told (at.hears i h));
        logged = at.logged;
        kept = at.kept;
        room = rw lines (room_anew t (length ls) a.from L ls new told at.room);
        reach = rw lines (reach_anew a.far L t (length ls) ls new told at.reach);
        listing = at.listing ∙ same;
        late = at.late ∙ same;
        piece = at.piece;
      };
      near = c.requires.at.near;
    }
