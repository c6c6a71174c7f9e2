use Rattle.std.proofs.Common.{◌+◌, add-one, arith}
use Rattle.network.specs.Net.{net}
use Rattle.net_step.specs.KeptNet.{Stands}
use Rattle.tap_signals.proofs.StretchesGrow.{on_either}
use Rattle.tap_signals.proofs.ToldByNet.{all_have_devices, tells_kinds}
use Rattle.tap_signals.proofs.emitting.tell_step.Goals as goal

pub write_rests-requires-clause-taps : goal.write_rests-requires-clause-taps
write_rests-requires-clause-taps c = all_have_devices c.args.plan.now c.args.t c.args.whole.now c.args.taps.now c.requires.stands c.requires.taps

pub tell_all-requires-clause-devices : goal.tell_all-requires-clause-devices
tell_all-requires-clause-devices c =
    let after : Stands (net c.args.plan.now (c.args.t + 1)) c.step.new.self = rw add-one (c.in_ok-step.ensures.stands (net c.args.plan.now c.args.t) c.requires.stands) in
    all_have_devices c.args.plan.now (c.args.t + 1) c.step.new.self c.args.taps.now after c.requires.taps

pub tell_all-requires-clause-kinds : goal.tell_all-requires-clause-kinds
tell_all-requires-clause-kinds c =
    let after : Stands (net c.args.plan.now (c.args.t + 1)) c.step.new.self = rw add-one (c.in_ok-step.ensures.stands (net c.args.plan.now c.args.t) c.requires.stands) in
    tells_kinds c.args.plan.now c.args.t c.args.whole.now c.step.new.self c.args.taps.now c.write_rests.new.rests c.requires.stands after c.requires.taps c.write_rests.ensures

pub returns-clause-time : goal.returns-clause-time
returns-clause-time c = on_either c.tell_all.result (omega (arith, c.in_ok-step.ensures.time, c.requires.time))

pub returns-clause-stands : goal.returns-clause-stands
returns-clause-stands c = on_either c.tell_all.result (rw add-one (c.in_ok-step.ensures.stands (net c.args.plan.now c.args.t) c.requires.stands))
