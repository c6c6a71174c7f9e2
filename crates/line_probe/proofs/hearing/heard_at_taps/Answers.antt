use Rattle.std.proofs.Common.{◌≡◌, ◌≤◌, ◌+◌, ◌-◌, ◌++◌, List, length, get_or, refl, sym, ap, ◌∙◌, arith, add-one}
use Rattle.load_plan.proofs.PlansAreSound.{sound_of_plan}
use Rattle.network.specs.Net.{net}
use Rattle.net_step.proofs.GoingOn.{at_time}
use Rattle.manchester_line.specs.declared.Sym.{Sym}
use Rattle.line_probe.specs.Heard.{tap_heard, rows_of_taps}
use Rattle.line_probe.specs.declared.tap.Tap.{Tap}
use Rattle.line_probe.proofs.Columns.{row_done, row_goes_on, rows_next}
use Rattle.line_probe.proofs.TapsKept.{tap_hears, tap_is_kept}
use Rattle.line_probe.proofs.hearing.heard_at_taps.Goals as goal

pub go_to-requires-clause-short : goal.go_to-requires-clause-short
go_to-requires-clause-short c = omega (arith, c.requires.order, c.requires.end, (sound_of_plan c.args.plan.now).bits_most)

pub probed-init : goal.probed-init
probed-init c = record {
  time = c.in_ok-go_to.ensures.time;
  stands = at_time c.args.plan.now _ c.args.from _ c.args.from c.in_ok-whole.ensures.time refl (c.in_ok-go_to.ensures.stands (net c.args.plan.now 0) c.in_ok-whole.ensures.stands);
  heard = ap (λ (xs : List Sym). xs ++ rows_of_taps c.args.plan.now c.args.taps.now c.args.from (c.args.to - c.args.from)) c.new-heard.ensures;
}

pub taps-init : goal.taps-init
taps-init c =
    ap (λ (xs : List Sym). c.probed.heard ++ xs) (sym (rows_next c.args.plan.now c.args.taps.now c.probed.t c.args.to c.probed-test.true)) ∙ c.probed.invariant.heard

pub heard-requires : goal.heard-requires
heard-requires c =
    let none : Tap = record { device = 0; port = 0 } in
    tap_is_kept c.args.plan.now c.probed.t c.probed.whole (get_or c.args.taps.now c.taps.tap-index none) c.probed.invariant.stands
    (c.requires.taps c.taps.tap-index none c.taps-test.true)

pub taps-preserved : goal.taps-preserved
taps-preserved c =
    let none : Tap = record { device = 0; port = 0 } in
    let tap : Tap = get_or c.args.taps.now c.taps.tap-index none in
    row_goes_on (tap_heard c.args.plan.now c.probed.t) c.args.taps.now c.taps.tap-index none c.taps.heard c.push.new.self c.heard.result
    (rows_of_taps c.args.plan.now c.args.taps.now (c.probed.t + 1) (c.args.to - (c.probed.t + 1))) _ c.taps-test.true c.in_ok-push.ensures.ok
    (tap_hears c.args.plan.now c.probed.t c.probed.whole tap c.heard.result c.probed.invariant.stands (c.requires.taps c.taps.tap-index none c.taps-test.true) c.heard.ensures)
    c.taps.invariant

pub step-requires : goal.step-requires
step-requires c = omega (arith, c.probed.invariant.time, c.probed-test.true, c.requires.end, (sound_of_plan c.args.plan.now).bits_most)

pub probed-preserved : goal.probed-preserved
probed-preserved c =
    let all : length c.args.taps.now ≤ c.taps.tap-index = omega arith in
    record {
      time = omega (arith, c.in_ok-step.ensures.time, c.probed.invariant.time);
      stands = rw add-one (c.in_ok-step.ensures.stands _ c.probed.invariant.stands);
      heard = row_done (tap_heard c.args.plan.now c.probed.t) c.args.taps.now c.taps.tap-index c.taps.heard
          (rows_of_taps c.args.plan.now c.args.taps.now (c.probed.t + 1) (c.args.to - (c.probed.t + 1))) _ all c.taps.invariant;
    }
