use Rattle.std.proofs.Common.{◌≡◌, ◌+◌, ◌-◌, get_or, sym, subst, ap, ◌∙◌, arith}
use Rattle.mac_receive.specs.KeptReceiver.{Hears}
use Rattle.mac_transmit.specs.Emissions.{IsSendingFor}
use Rattle.network.specs.Attempts.{sender_at}
use Rattle.net_parts.specs.Standing.{receiver_at}
use Rattle.tap_lines.specs.TapLines.{no_line, class_by_lines, symbol_on}
use Rattle.segment_engine.specs.SteadyPieces.{IsCalmAs}
use Rattle.window_room.specs.NeededRoom.{IsDemandWithin, both_demands, receiver_demand, sender_demand}
use Rattle.segment_engine.specs.StationsApart.{behind_demand, number_on}
use Rattle.segment_engine.proofs.apart.look_one.Goals as goal

pub watch_from-requires-clause-listed : goal.watch_from-requires-clause-listed
watch_from-requires-clause-listed c =
    let most = c.min-most.ensures in
    let last = c.requires.in_time in
    record {
      tap = c.requires.tap;
      reach = c.requires.reach;
      loud = c.requires.loud;
      in_time = omega (arith, most, last);
    }

pub returns-clause-apart : goal.returns-clause-apart
returns-clause-apart c =
    let g = c.args.of.now in
    let plan = g.plan.value in
    let p = c.args.p in
    let x = number_on g p in
    let u = c.args.u in
    let b = c.bring_one.ensures.behind in
    let k = c.bring_one.new.receiver in
    let is = c.watch_from.result in
    let at = c.watch_from.ensures.since in
    let brought = c.bring_one.ensures.since in
    let told = c.watch_from.ensures.told in
    let from = b.from_start in
    let begins = c.watch_from.ensures.from in
    let few = c.watch_from.ensures.within in
    let least = c.saturating_sub.ensures in
    let most = c.min-most.ensures in
    let late = c.requires.apart.until in
    let kept = c.bring_one.ensures.until in
    let reaches = b.within in
    let same : c.bring_one.new.watch.since ≡ is.since = brought ∙ sym at in
    record {
      behind = record {
        from_start = omega (arith, from, same);
        ordered = omega (arith, begins, at);
        within = omega (arith, few, least, most, told, late, kept, reaches);
        sender = b.sender ∙ ap (sender_at plan x) same;
        receiver = subst (λ a. Hears (receiver_at plan x a) k) same b.receiver;
        time = b.time ∙ same;
        steps = b.steps ∙ same;
        calm = subst (λ a. IsCalmAs (is.until - a) is.carrier c.bring_one.new.sender) (sym at) c.watch_from.ensures.calm;
        steady = λ a low high.
            let e : u + (a - u) ≡ a = omega (arith, low, at) in
            subst (λ y. class_by_lines g.lookahead y c.args.lines.now p ≡ is.carrier) e (c.watch_from.ensures.steady (a - u) (omega (arith, e, high)));
        line = λ j h.
            ap (λ a. symbol_on (get_or c.args.lines.now p no_line) (a + j)) (sym same) ∙ b.line j (omega (arith, h, same, told));
        signal = λ j h. b.signal j (omega (arith, h, same, told));
        lasts = λ sending.
            let left : is.told - is.since ≡ c.bring_one.new.watch.told - c.bring_one.new.watch.since = omega (arith, same, told) in
            subst (λ m. IsSendingFor c.bring_one.new.sender m c.bring_one.new.sender.phase) (sym left) (b.lasts sending);
        goes = λ a low. b.goes a (omega (arith, low, same));
      };
      since = omega (arith, at);
      until = begins;
      within = omega (arith, few, most, at);
      still = λ h. absurd (omega (arith, h, at));
    }

pub returns-clause-left : goal.returns-clause-left
returns-clause-left c = λ e h.
    let s = c.bring_one.new.sender in
    let k = c.bring_one.new.receiver in
    subst (λ a. IsDemandWithin (both_demands (sender_demand (e - a) s) (receiver_demand (e - a) k)) (behind_demand e c.args.watch.now c.args.sender.now c.args.receiver.now))
    (c.bring_one.ensures.since ∙ sym c.watch_from.ensures.since)
    (c.bring_one.ensures.left e h)
