use Rattle.std.proofs.Common.{length, length-take-le, sym, ap, ◌∙◌}
use Rattle.tap_lines.specs.TapLists.{TapList}
use Rattle.tap_lines.proofs.LoudLists.{not_one}
use Rattle.tap_lines.proofs.loud.LoudTaps.only.Goals as goal

pub returns-else-self-eq1-clause-no_source : goal.returns-else-self-eq1-clause-no_source
returns-else-self-eq1-clause-no_source c = λ u ls loud q only.
    let x = c.self.inside in
    let size = length-take-le x.count x.numbers.items c.self.invariant in
    let is = ap (λ (l : TapList). length l.taps) c.self.view_is in
    not_one u ls c.args.self.now.taps loud (λ one. c.if-self-eq1.false (sym size ∙ is ∙ one)) q only
