use Rattle.std.proofs.Common.{◌≡◌, ◌+◌, ◌<◌, All, false, List, length, get_or, sym, subst, ap, ◌∙◌, arith, rules}
use Rattle.std.specs.Vec.{with_items}
use Rattle.std.proofs.lemmas.List.{with_items_is}
use Rattle.manchester_line.specs.Decoding.{new_decoding}
use Rattle.mac_receive.specs.KeptReceiver.{KeptReception}
use Rattle.mac_transmit.specs.Sender.{Sender}
use Rattle.network.specs.Attempts.{sender_at}
use Rattle.net_parts.specs.SegmentParts.{wiring}
use Rattle.tap_lines.specs.TapLines.{TapLine, forgotten}
use Rattle.segment_engine.specs.KnownLines.{KnowLines}
use Rattle.segment_engine.specs.QuietHalfBits.{AreAtRest, ComeInIdle, IsCalmFor, IsQuietFor}
use Rattle.segment_engine.proofs.PassedStations.{stand_passed}
use Rattle.segment_engine.proofs.QuietAhead.{calm_for_now, steps_now, times_now}
use Rattle.segment_engine.proofs.QuietStations.{quiet_captures, quiet_known, quiet_rows}
use Rattle.segment_engine.proofs.RoomOfLines.{fits_of, keeps_of}
use Rattle.segment_engine.proofs.SettledLines.{HaveForgotten, end_settled, have_forgotten, hear_settled, known_settled, reach_settled, room_settled}
use Rattle.segment_engine.proofs.quiet.pass.Goals as goal

abbrev a_kept : KeptReception
a_kept = record { lose = 0; most = 0; deaf = false; halves = 0; decoder = new_decoding; steps = 0 }

pub leap_all-requires-clause-times : goal.leap_all-requires-clause-times
leap_all-requires-clause-times c =
    let b = c.settle.new.state in
    subst (λ xs. All (λ (s : Sender). s.t ≡ b.t) xs) (sym c.deref_mut-2.ensures.value) (times_now c.args.of.now b c.args.state.now.t c.settle.ensures.goes c.settle.ensures.from)

pub leap_all-requires-clause-steps : goal.leap_all-requires-clause-steps
leap_all-requires-clause-steps c =
    let b = c.settle.new.state in
    subst (λ xs. All (λ (k : KeptReception). k.steps ≡ b.t) xs) (sym c.deref_mut-3.ensures.value) (steps_now c.args.of.now b c.args.state.now.t c.settle.ensures.goes c.settle.ensures.from)

pub leap_all-requires-clause-calm : goal.leap_all-requires-clause-calm
leap_all-requires-clause-calm c =
    let b = c.settle.new.state in
    let m = c.args.count in
    subst (λ xs. All (IsCalmFor m) xs) (sym c.deref_mut-2.ensures.value) (calm_for_now c.args.of.now b c.args.state.now.t c.settle.ensures.goes c.settle.ensures.from m (c.settle.ensures.quiet m c.requires.quiet))

pub leap_all-requires-clause-rest : goal.leap_all-requires-clause-rest
leap_all-requires-clause-rest c = subst AreAtRest (sym c.deref_mut-3.ensures.value) (c.settle.ensures.quiet c.args.count c.requires.quiet).receivers

pub forget_all-requires-clause-in_time : goal.forget_all-requires-clause-in_time
forget_all-requires-clause-in_time c =
    let small = c.requires.in_time in
    let time = c.settle.ensures.time in
    rw c.deref_mut-4.ensures.value (λ r d h. fits_of c.args.of.now c.args.state.now.t c.settle.new.state c.settle.ensures.goes r d h (omega (arith, small, time)))

pub forget_all-requires-clause-keeps : goal.forget_all-requires-clause-keeps
forget_all-requires-clause-keeps c = rw c.deref_mut-4.ensures.value (keeps_of c.args.of.now c.args.state.now.t c.settle.new.state c.settle.ensures.goes)

pub returns-clause-at : goal.returns-clause-at
returns-clause-at c =
    let g = c.args.of.now in
    let b = c.settle.new.state in
    let plan = g.plan.value in
    let w = wiring plan.layout g.number in
    let L = g.lookahead in
    let m = c.args.count in
    let front = c.args.state.now.t in
    let u = b.t + m in
    let at = c.settle.ensures.goes in
    let settled = c.settle.ensures.from in
    let time = c.settle.ensures.time in
    let quiet : IsQuietFor m b = c.settle.ensures.quiet m c.requires.quiet in
    let come : ComeInIdle plan w.edges b.t m = subst (λ v. ComeInIdle plan w.edges v m) (sym time) c.requires.silent in
    let ds = sender_at plan 0 0 in
    let ls = b.lines.items in
    let new = c.forget_all.new.lines in
    let ws = c.leap_all.new.watches in
    let ss = c.leap_all.new.senders in
    let ks = c.leap_all.new.receivers in
    let know : KnowLines plan w L u u ls = quiet_known g b m front at quiet come ds a_kept in
    let size : length new ≡ length ls = c.forget_all.auto.lines ∙ ap length c.deref_mut-4.ensures.value in
    let forgot : HaveForgotten u ls new = have_forgotten plan w L u u b.from ls new know (omega arith) at.room size
    (λ r d h. c.forget_all.ensures r d h ∙ ap (λ (xs : List TapLine). forgotten u (get_or xs r d)) c.deref_mut-4.ensures.value) in
    let lines = with_items_is b.lines new (search rules) in
    let watches = with_items_is b.watches ws (search rules) in
    let senders = with_items_is b.senders ss (search rules) in
    let receivers = with_items_is b.receivers ks (search rules) in
    let ws_len = c.leap_all.auto.watches ∙ ap length c.deref_mut.ensures.value in
    let same = sym (ap length lines ∙ size) in
    let many = at.stations.senders in
    let ss_len = c.leap_all.auto.senders ∙ ap length c.deref_mut-2.ensures.value in
    let leapt = rw (c.deref_mut-2.ensures.value, c.deref_mut-3.ensures.value) at c.leap_all.ensures in
    record {
      goes = record {
        begun = omega arith;
        upto = omega arith;
        stations = rw (lines, watches, senders, receivers)
            (stand_passed g b m front at quiet ds a_kept come settled new forgot ws ss ks ws_len
            ss_len
            (c.leap_all.auto.receivers ∙ ap length c.deref_mut-3.ensures.value)
            leapt);
        still = rw (watches, senders, receivers) (λ i x s k h below.
            let there : i < length ss = omega (arith, h, many, ss_len) in
            let one = leapt i x s s k k there in
            let since = one.since in
            let until = one.until in
            absurd (omega (arith, below, since, until)));
        lines = rw lines (known_settled u ls new forgot plan w L u know);
        ends = rw lines (λ p h.
            let many = at.lines.many in
            let numbers = ap length g.station_numbers in
            let end = at.ends p h in
            let later = end_settled u ls new forgot (length g.stations.items + p) (omega (arith, h, many, numbers)) in
            omega (arith, later, end, time));
        hears = hear_settled g u (with_items b.lines new).items;
        logged = at.logged ∙ sym (quiet_rows g b m front at quiet come ds a_kept);
        kept = at.kept ∙ sym (quiet_captures g b m front at quiet come ds a_kept);
        room = rw lines (room_settled u ls new forgot b.from L at.room);
        reach = rw lines (reach_settled u ls new forgot b.far L at.reach);
        listing = at.listing ∙ same;
        late = at.late ∙ same;
        piece = at.piece;
      };
      near = omega arith;
    }
