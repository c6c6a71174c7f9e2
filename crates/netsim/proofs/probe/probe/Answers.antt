use Rattle.std.proofs.Common.{All, List, length, ap, sym, subst, ◌≤◌, ◌∙◌, arith, rules, ◌≡◌, Err}
use Rattle.layout.specs.declared.lines.Layout.{Layout}
use Rattle.line_probe.specs.Taps.{HasTap}
use Rattle.line_probe.specs.declared.tap.Tap.{Tap}
use Rattle.program_endings.specs.Probes.{AreTapsOf, half_bits_of}
use Rattle.netsim.proofs.ProbeEnds.{probe-early, probe-missed, probe-told, probe-unloaded}
use Rattle.run_forms.proofs.RunEnds.{plan-before, read-twice}
use Rattle.netsim.proofs.TapsOfWords.{named_many}
use Rattle.netsim.proofs.probe.probe.Goals as goal

pub returns-in_err-network : goal.returns-in_err-network
returns-in_err-network g c =
    let end = probe-early c.args.report c.args.layout.now c.args.from c.args.to c.args.words.now c.args.world.now c.read_network.new.world c.in_err-network.field-0.0 c.read_network.ensures.held c.in_err-network.ensures.early in
    search rules

pub returns-in_err-taps : goal.returns-in_err-taps
returns-in_err-taps g c =
    let end = probe-missed c.args.report c.args.layout.now c.args.from c.args.to c.args.words.now c.in_ok-network.network c.args.world.now c.read_network.new.world c.aim.new.world c.in_err-taps.field-0.0 c.in_ok-network.ensures.read
    c.in_ok-network.ensures.judged c.aim.ensures.held c.in_err-taps.ensures.missed in
    let stopped : c.from_residual-in_err-taps.result ≡ Err c.in_err-taps.field-0.0 = search rules in
    rw stopped end

pub returns-in_err-plan : goal.returns-in_err-plan
returns-in_err-plan g c =
    let aimed = read-twice c.args.world.now c.read_network.new.world c.aim.new.world c.in_ok-network.ensures.read c.in_ok-taps.ensures.read in
    let end = probe-unloaded c.args.report c.args.layout.now c.args.from c.args.to c.args.words.now c.in_ok-network.network c.in_ok-taps.taps c.args.world.now c.aim.new.world c.plan_network.new.world c.in_err-plan.field-0.0 aimed
    c.in_ok-network.ensures.judged c.in_ok-taps.ensures.taps c.in_ok-taps.ensures.within c.plan_network.ensures.held c.in_err-plan.ensures.unloaded in
    let stopped : c.from_residual-in_err-plan.result ≡ Err c.in_err-plan.field-0.0 = search rules in
    rw stopped end

pub tell_taps-requires-clause-taps : goal.tell_taps-requires-clause-taps
tell_taps-requires-clause-taps g c =
    subst (λ (n : Layout). All (HasTap n) c.as_slice.result.now) (sym c.in_ok-plan.ensures.planned.layout) (subst (λ (ts : List Tap). All (HasTap c.in_ok-network.network) ts) (sym c.as_slice.ensures) c.in_ok-taps.ensures.there)

pub tell_taps-requires-clause-named : goal.tell_taps-requires-clause-named
tell_taps-requires-clause-named g c = omega (arith, ap (λ (ts : List Tap). length ts) c.as_slice.ensures, named_many c.in_ok-network.network c.args.words.now c.in_ok-taps.taps c.in_ok-taps.ensures.taps)

pub tell_taps-requires-clause-few : goal.tell_taps-requires-clause-few
tell_taps-requires-clause-few g c = omega (arith, ap (λ (ts : List Tap). length ts) c.as_slice.ensures, named_many c.in_ok-network.network c.args.words.now c.in_ok-taps.taps c.in_ok-taps.ensures.taps, c.requires.few)

pub tell_taps-requires-clause-end : goal.tell_taps-requires-clause-end
tell_taps-requires-clause-end g c = subst (λ (n : Layout). c.args.to ≤ half_bits_of n) (sym c.in_ok-plan.ensures.planned.layout) c.in_ok-taps.ensures.within

pub returns : goal.returns
returns g c =
    let aimed = read-twice c.args.world.now c.read_network.new.world c.aim.new.world c.in_ok-network.ensures.read c.in_ok-taps.ensures.read in
    probe-told c.args.report c.args.layout.now c.args.from c.args.to c.args.words.now c.in_ok-network.network c.in_ok-plan.plan c.as_slice.result.now c.args.world.now c.plan_network.new.world c.tell_taps.new.world _
    (read-twice c.args.world.now c.aim.new.world c.plan_network.new.world aimed c.in_ok-plan.ensures.read) c.in_ok-network.ensures.judged
    (plan-before c.args.world.now.held c.aim.new.world.held c.in_ok-network.network c.in_ok-plan.plan aimed.held c.in_ok-plan.ensures.planned)
    (subst (λ (ts : List Tap). AreTapsOf c.in_ok-network.network c.args.words.now ts) (sym c.as_slice.ensures) c.in_ok-taps.ensures.taps) c.in_ok-taps.ensures.within c.tell_taps.ensures.held c.tell_taps.ensures.told
