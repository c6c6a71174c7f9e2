use Rattle.std.proofs.Common.{arith, ◌∙◌}
use Rattle.std.proofs.lemmas.Result.{IfOk-weaker}
use Rattle.tap_signals.specs.Signals.{AreSignals}
use Rattle.tap_signals.proofs.ToldByNet.{all_are_taps, told_all}
use Rattle.tap_signals.proofs.emitting.signals.Goals as goal

pub told_from-requires-clause-taps : goal.told_from-requires-clause-taps
told_from-requires-clause-taps c = all_are_taps c.args.plan.now.layout c.deref.result.now (c.deref.ensures.value ∙ c.in_ok-taps.ensures)

pub returns : goal.returns
returns c =
    let start = c.saturating_sub.result in
    IfOk-weaker c.listed.result _ (AreSignals c.args.plan.now c.args.from c.args.to)
    (λ s is. told_all c.args.plan.now c.args.from start c.args.to c.deref.result.now c.in_ok-lists.lists.items s (c.deref.ensures.value ∙ c.in_ok-taps.ensures) (omega (arith, c.saturating_sub.ensures, c.from.ensures))
    (omega (arith, c.saturating_sub.ensures, c.requires.order)) is c.in_ok-lists.ensures)
    c.listed.ensures
