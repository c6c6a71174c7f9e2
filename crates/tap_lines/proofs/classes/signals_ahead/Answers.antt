use Rattle.std.proofs.Common.{◌≡◌, ◌+◌, ◌-◌, inl, inr, ap, ◌∙◌, arith}
use Rattle.std.proofs.lemmas.Bool.{cases_lt}
use Rattle.tap_lines.specs.TapLines.{class_by_lines}
use Rattle.tap_lines.proofs.classes.signals_ahead.Goals as goal

pub loop-steady-preserved : goal.loop-steady-preserved
loop-steady-preserved c =
    let t = c.args.t in
    let n = c.loop-steady.steady in
    let more = c.one_signal_ahead-more.result in
    let inv = c.loop-steady.invariant in
    let few = c.one_signal_ahead-more.ensures.within in
    let within = inv.within in
    record {
      within = omega (arith, few, within);
      signals = λ j h. elim (cases_lt j n) [
        | inl before ↦ inv.signals j before
        | inr behind ↦
            let e : t + j ≡ t + n + (j - n) = omega (arith, behind) in
            ap (λ u. class_by_lines c.args.lookahead u c.args.lines.now c.args.p) e
            ∙ c.one_signal_ahead-more.ensures.signals (j - n) (omega (arith, h, behind))
      ];
    }
