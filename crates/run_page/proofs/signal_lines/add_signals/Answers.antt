use Rattle.std.proofs.Common.{ℕ, ◌+◌, List, ◌++◌, drop, get_or, length, take, refl, sym, ap, ◌∙◌, arith}
use Rattle.layout.specs.declared.lines.RepeaterLine.{RepeaterLine}
use Rattle.layout.specs.declared.ways.Attachment.{Attachment}
use Rattle.layout.specs.declared.ways.Attachment.TheVariants.{Port, Station}
use Rattle.tap_signals.specs.Taps.{ports_from}
use Rattle.run_page.specs.SignalLines.{lines_of_taps, signal_lines}
use Rattle.run_page.proofs.TapLines.{enough, next_repeater, others, taps_added}
use Rattle.run_page.proofs.signal_lines.add_signals.Goals as goal

pub split_at-requires : goal.split_at-requires
split_at-requires c =
    omega (arith, c.len.ensures, enough Station (length c.args.layout.now.stations) (ports_from 0 c.args.layout.now.repeaters) c.args.lists.now c.requires.taps)

pub repeaters-init : goal.repeaters-init
repeaters-init c =
    let l = c.args.layout.now in
    let back = c.split_at.ensures.back ∙ ap (λ (n : ℕ). drop n c.args.lists.now) c.len.ensures in
    let front = c.split_at.ensures.front ∙ ap (λ (n : ℕ). take n c.args.lists.now) c.len.ensures in
    let same = c.as_slice-repeaters.ensures in
    record {
      many = others Station (length l.stations) (ports_from 0 l.repeaters) c.args.lists.now c.split_at.result.1.now back c.requires.taps
          ∙ ap (λ (rs : List RepeaterLine). length (ports_from 0 rs)) (sym same);
      so_far = ap (λ (rs : List RepeaterLine). c.add_station_signals.new.text ++ lines_of_taps l (ports_from 0 rs) c.split_at.result.1.now) same
          ∙ taps_added l Station (length l.stations) (ports_from 0 l.repeaters) c.args.lists.now c.split_at.result.0.now c.split_at.result.1.now
          (c.args.text.now ++ signal_lines l c.args.lists.now) c.args.text.now c.add_station_signals.new.text
          front back (c.split_at.ensures.front_len ∙ c.len.ensures) c.in_ok-add_station_signals.ensures refl;
    }

pub split_at-requires-in-repeaters : goal.split_at-requires-in-repeaters
split_at-requires-in-repeaters c =
    let rs = c.as_slice-repeaters.result.now in
    let x = get_or rs c.repeaters.r c.index-repeaters-r.result in
    let more = ports_from (c.repeaters.r + 1) (drop (c.repeaters.r + 1) rs) in
    let many = c.repeaters.invariant.many ∙ ap length (next_repeater c.repeaters.r rs c.index-repeaters-r.result c.repeaters-test.true) in
    omega (arith, c.len-in-repeaters.ensures, enough (Port c.repeaters.r) (length x.ports) more c.repeaters.rest.now many)

pub repeaters-preserved : goal.repeaters-preserved
repeaters-preserved c =
    let l = c.args.layout.now in
    let r = c.repeaters.r in
    let rs = c.as_slice-repeaters.result.now in
    let x = get_or rs c.repeaters.r c.index-repeaters-r.result in
    let more = ports_from (r + 1) (drop (r + 1) rs) in
    let next = next_repeater r rs c.index-repeaters-r.result c.repeaters-test.true in
    let back = c.split_at-in-repeaters.ensures.back ∙ ap (λ (n : ℕ). drop n c.repeaters.rest.now) c.len-in-repeaters.ensures in
    let front = c.split_at-in-repeaters.ensures.front ∙ ap (λ (n : ℕ). take n c.repeaters.rest.now) c.len-in-repeaters.ensures in
    let so_far = sym (ap (λ (taps : List Attachment). c.repeaters.text ++ lines_of_taps l taps c.repeaters.rest.now) next) ∙ c.repeaters.invariant.so_far in
    record {
      many = others (Port r) (length x.ports) more c.repeaters.rest.now c.split_at-in-repeaters.result.1.now back (c.repeaters.invariant.many ∙ ap length next);
      so_far = taps_added l (Port r) (length x.ports) more c.repeaters.rest.now c.split_at-in-repeaters.result.0.now c.split_at-in-repeaters.result.1.now
          (c.args.text.now ++ signal_lines l c.args.lists.now) c.repeaters.text c.add_port_signals.new.text
          front back (c.split_at-in-repeaters.ensures.front_len ∙ c.len-in-repeaters.ensures) c.in_ok-add_port_signals.ensures so_far;
    }
