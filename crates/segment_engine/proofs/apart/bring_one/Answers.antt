use Rattle.std.proofs.Common.{◌≡◌, ◌+◌, ◌-◌, length, take, sym, subst, ap, ◌∙◌, arith}
use Rattle.std.proofs.lemmas.List.{length-take-le}
use Rattle.mac_receive.specs.KeptReceiver.{Hears}
use Rattle.mac_receive.specs.Receiver.{receiver_after}
use Rattle.mac_transmit.specs.Calm.{change_in}
use Rattle.mac_transmit.specs.Sender.{is_sending}
use Rattle.tap_lines.specs.TapLines.{heard_for}
use Rattle.tap_lines.proofs.LoudLists.{later_idle}
use Rattle.segment_engine.proofs.BehindStations.{IsBrought, is_brought}
use Rattle.segment_engine.proofs.CalmLater.{fewer_over}
use Rattle.segment_engine.proofs.apart.bring_one.Goals.{After-pass}
use Rattle.segment_engine.proofs.apart.bring_one.Goals as goal

pub hear_on-requires-clause-late : goal.hear_on-requires-clause-late
hear_on-requires-clause-late c =
    let since = c.args.watch.now.since in
    let from = c.requires.behind.from_start in
    later_idle (c.args.from - c.args.far) (since - c.args.far) c.args.lines.now c.args.late.now.taps (omega (arith, from)) c.requires.late

pub hear_on-requires-clause-steady : goal.hear_on-requires-clause-steady
hear_on-requires-clause-steady c = λ j h.
    let w = c.args.watch.now in
    let n = c.args.u - w.since in
    let b = c.requires.behind in
    let from = b.from_start in
    let early = c.requires.since in
    let late = c.requires.until in
    let long = c.requires.piece in
    let fits : length (take n c.args.piece.now) ≡ n = length-take-le n c.args.piece.now (omega (arith, early, long)) in
    sym (c.requires.right.classes (w.since + j) (omega (arith, from)) (omega (arith, h, fits, early)))
    ∙ b.steady (w.since + j) (omega arith) (omega (arith, h, fits, early, late))

pub pass-requires-clause-calm : goal.pass-requires-clause-calm
pass-requires-clause-calm c =
    let w = c.args.watch.now in
    let late = c.requires.until in
    fewer_over (c.args.u - w.since) (w.until - w.since) (change_in c.args.sender.now w.carrier) (omega (arith, late)) c.requires.behind.calm.number

brought : (c : After-pass) → IsBrought c.args.of.now c.args.p c.args.from c.args.u c.args.lines.now c.args.watch.now c.args.sender.now c.pass.new.self c.args.receiver.now c.hear_on.new.receiver
brought c =
    let g = c.args.of.now in
    let p = c.args.p in
    let ls = c.args.lines.now in
    let w = c.args.watch.now in
    let s = c.args.sender.now in
    let k' = c.hear_on.new.receiver in
    let n = c.args.u - w.since in
    let early = c.requires.since in
    let long = c.requires.piece in
    let fits : length (take n c.args.piece.now) ≡ n = length-take-le n c.args.piece.now (omega (arith, early, long)) in
    is_brought g p c.args.from c.args.u ls w s c.pass.new.self c.args.receiver.now k' c.requires.station c.requires.behind early c.requires.until c.requires.right
    c.pass.ensures.state c.pass.ensures.time (c.hear_on.ensures.steps ∙ ap (λ a. w.since + a) fits)
    (λ r h. subst (λ m. Hears (receiver_after r (heard_for g.lookahead w.since m ls p) (is_sending s.phase)) k') fits
    (subst (λ q. Hears (receiver_after r (heard_for g.lookahead w.since (length (take n c.args.piece.now)) ls p) q) k') c.is_sending-sending.ensures (c.hear_on.ensures.state r h)))

pub returns-clause-behind : goal.returns-clause-behind
returns-clause-behind c = (brought (goal.at.returns-clause-behind c).After-pass).behind

pub returns-clause-still : goal.returns-clause-still
returns-clause-still c = (brought (goal.at.returns-clause-still c).After-pass).still

pub returns-clause-left : goal.returns-clause-left
returns-clause-left c = (brought (goal.at.returns-clause-left c).After-pass).left
