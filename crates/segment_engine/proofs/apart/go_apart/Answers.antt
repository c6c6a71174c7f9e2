use Rattle.std.proofs.Common.{◌≡◌, ℕ, ◌+◌, ◌-◌, ◌*◌, ◌<◌, ◌≤◌, map, length, get_or, sym, subst, ap, ap₂, ◌∙◌, arith, rules}
use Rattle.std.specs.Vec.{with_items}
use Rattle.std.proofs.lemmas.List.{with_items_is}
use Rattle.net_parts.specs.Windows.{lookahead}
use Rattle.net_parts.specs.SegmentParts.{wiring}
use Rattle.net_parts.specs.declared.parcel.Parcel.{Parcel}
use Rattle.tap_lines.specs.TapLines.{TapLine, no_line, heard_for}
use Rattle.segment_engine.specs.KnownLines.{KnowLines}
use Rattle.segment_engine.specs.PartStates.{half_filled}
use Rattle.segment_engine.specs.SteadyPieces.{with_piece_at}
use Rattle.segment_engine.specs.StationsApart.{AreToldAnew}
use Rattle.segment_engine.proofs.ChangedLines.{line_anew}
use Rattle.segment_engine.proofs.FilledParcels.{parcels_after, parcels_long_for}
use Rattle.segment_engine.proofs.RoomOfLines.{room_anew, tells_of}
use Rattle.segment_engine.proofs.RunsApart.{reach_anew}
use Rattle.segment_engine.proofs.apart.go_apart.Goals as goal

pub run_apart-requires-clause-ahead : goal.run_apart-requires-clause-ahead
run_apart-requires-clause-ahead c =
    let at = c.requires.time in
    let within = c.requires.within in
    let is = c.from.ensures in
    let more : (c.args.window + 1) * c.args.of.now.lookahead ≡ c.args.window * c.args.of.now.lookahead + c.args.of.now.lookahead = omega arith in
    omega (arith, at, within, more, is)

pub run_apart-requires-clause-tell : goal.run_apart-requires-clause-tell
run_apart-requires-clause-tell c = λ r h.
    let a = c.args.state.now in
    let g = c.args.of.now in
    let many = c.requires.at.goes.stations.taps in
    let in_time = c.requires.in_time in
    let within = c.requires.within in
    let is = c.from.ensures in
    rw c.deref_mut-lines.ensures.value
    (tells_of g ((c.args.window + 1) * g.lookahead) a c.requires.at (omega (arith, in_time)) r (omega (arith, h, many)) (a.t + c.from.result) (omega (arith, within, is)))

pub put_first-requires-clause-reach : goal.put_first-requires-clause-reach
put_first-requires-clause-reach c =
    let g = c.args.of.now in
    let a = c.args.state.now in
    reach_anew a.far g.lookahead a.t (length g.stations.items) c.deref_mut-lines.result.now c.run_apart.new.lines c.run_apart.ensures.lines
    (rw c.deref_mut-lines.ensures.value c.requires.at.goes.reach)

pub put_first-requires-clause-long : goal.put_first-requires-clause-long
put_first-requires-clause-long c = λ i d l.
    let plan = c.args.of.now.plan.value in
    let within = c.requires.within in
    let long = parcels_long_for plan c.args.of.now.lookahead c.args.window 0 c.args.count (wiring plan.layout c.args.of.now.number).edges c.args.parcels.now (omega (arith, within)) c.requires.parcels i d l in
    omega (arith, long)

pub returns-clause-goes : goal.returns-clause-goes
returns-clause-goes c =
    let a = c.args.state.now in
    let g = c.args.of.now in
    let n = length g.stations.items in
    let at = c.requires.at.goes in
    let new = c.run_apart.new.lines in
    let ws = c.run_apart.new.watches in
    let ss = c.run_apart.new.senders in
    let ks = c.run_apart.new.receivers in
    let begun = at.begun in
    let time = c.requires.time in
    let within = c.requires.within in
    let is = c.from.ensures in
    let more : (c.args.window + 1) * g.lookahead ≡ c.args.window * g.lookahead + g.lookahead = omega arith in
    let lines = with_items_is a.lines new (search rules) in
    let watches = with_items_is a.watches ws (search rules) in
    let senders = with_items_is a.senders ss (search rules) in
    let receivers = with_items_is a.receivers ks (search rules) in
    let anew : AreToldAnew a.t n a.lines.items new = subst (λ xs. AreToldAnew a.t n xs new) c.deref_mut-lines.ensures.value c.run_apart.ensures.lines in
    let same : length a.lines.items ≡ length (with_items a.lines new).items = sym (ap length lines ∙ anew.many) in
    record {
      begun = omega (arith, begun);
      upto = omega (arith, time, within, is, more);
      stations = rw (lines, watches, senders, receivers) c.run_apart.ensures.apart;
      still = rw (watches, senders, receivers) c.run_apart.ensures.still;
      lines = rw lines c.run_apart.ensures.know;
      ends = rw lines (λ p h. ap (λ (l : TapLine). l.base + length l.symbols) (anew.others (n + p) (omega arith)) ∙ at.ends p h);
      hears = rw lines c.run_apart.ensures.right;
      logged = c.run_apart.ensures.logged;
      kept = c.run_apart.ensures.kept;
      room = rw lines (room_anew a.t n a.from g.lookahead a.lines.items new anew at.room);
      reach = rw lines (reach_anew a.far g.lookahead a.t n a.lines.items new anew at.reach);
      listing = c.run_apart.ensures.loud_room ∙ c.list_taps.ensures.loud_room ∙ at.listing ∙ same;
      late = c.run_apart.ensures.late_room ∙ c.list_taps.ensures.late_room ∙ at.late ∙ same;
      piece = rw (with_items_is a.piece c.put_first.new.piece (search rules)) (let size = c.put_first.auto.piece ∙ c.run_apart.auto.piece ∙ ap length c.deref_mut-piece.ensures.value in let enough = at.piece in omega (arith, size, enough));
    }

pub returns-clause-parcels : goal.returns-clause-parcels
returns-clause-parcels c =
    let a = c.args.state.now in
    let g = c.args.of.now in
    let plan = g.plan.value in
    let w = wiring plan.layout g.number in
    let L = lookahead plan.layout in
    let t = a.t in
    let m = c.args.count in
    let u = t + c.from.result in
    let front = (c.args.window + 1) * g.lookahead in
    let n = length g.stations.items in
    let at = c.requires.at.goes in
    let new = c.run_apart.new.lines in
    let is = c.from.ensures in
    let anew : AreToldAnew t n a.lines.items new = subst (λ xs. AreToldAnew t n xs new) c.deref_mut-lines.ensures.value c.run_apart.ensures.lines in
    let long = g.window_length in
    let knows : KnowLines plan w L u front new = subst (λ x. KnowLines plan w x u front new) long c.run_apart.ensures.know in
    let within = c.requires.within in
    let time = c.requires.time in
    let more : front ≡ c.args.window * g.lookahead + g.lookahead = omega arith in
    let numbers = ap length g.station_numbers in
    let counted = c.len-stations.ensures in
    let stations_are : c.len-stations.result ≡ length w.stations = omega (arith, numbers, counted) in
    let filled : (p : ℕ) (d : Parcel) → p < length c.put_first.new.parcels → get_or c.put_first.new.parcels p d ≡ with_piece_at 0 (heard_for L t m new (length w.stations + p)) (get_or c.args.parcels.now p d) = λ p d l.
    c.put_first.ensures p d l
    ∙ ap (λ xs. with_piece_at 0 xs (get_or c.args.parcels.now p d))
    (ap₂ (λ x i. heard_for x t m new (i + p)) long stations_are) in
    let begun : (r : ℕ) → r < length new → (get_or new r no_line).base ≤ t - (get_or new r no_line).backlog = λ r h.
    let many = anew.many in
    let line = line_anew t n r a.lines.items new anew in
    let base = line.begins in
    let back = line.keeps in
    let z = at.lines.begins r (omega (arith, h, many)) in
    omega (arith, base, back, z) in
    let start : t ≡ c.args.window * L + 0 = time ∙ ap (λ x. c.args.window * x) long ∙ omega arith in
    let were : c.args.parcels.now ≡ map (half_filled plan L c.args.window 0) w.edges = c.requires.parcels ∙ ap (λ x. map (half_filled plan x c.args.window 0) w.edges) long in
    let fits : 0 + m ≤ L = omega (arith, within, long) in
    parcels_after plan g.number t m u front new knows (omega (arith, is)) (omega (arith, time, within, is, more)) begun c.args.window 0 c.args.parcels.now c.put_first.new.parcels start fits were c.put_first.auto.parcels filled
    ∙ ap₂ (λ x j. map (half_filled plan x c.args.window j) w.edges) (sym long) (let e : 0 + m ≡ m = omega arith in e)

pub returns-clause-left : goal.returns-clause-left
returns-clause-left c = λ e h covers.
    let a = c.args.state.now in
    let watches = with_items_is a.watches c.run_apart.new.watches (search rules) in
    let senders = with_items_is a.senders c.run_apart.new.senders (search rules) in
    let receivers = with_items_is a.receivers c.run_apart.new.receivers (search rules) in
    rw (watches, senders, receivers)
    (c.run_apart.ensures.left e h (rw (c.deref_mut-watches.ensures.value, c.deref_mut-senders.ensures.value, c.deref_mut-receivers.ensures.value) covers))
