use Rattle.std.proofs.Common.{◌+◌, ap, ◌∙◌, arith}
use Rattle.manchester_line.specs.Line.{mix_of}
use Rattle.network.specs.Times.{earlier}
use Rattle.tap_lines.specs.TapLines.{symbol_on}
use Rattle.tap_lines.proofs.Mixes.{mixed_more}
use Rattle.tap_lines.proofs.line.Line.mix_back.Goals as goal

pub loop-j-preserved : goal.loop-j-preserved
loop-j-preserved c =
    let test = c.loop-j-test.true in
    let len = c.loop-j.invariant.len in
    mixed_more (λ i. earlier (symbol_on c.args.self.now) (c.args.t + i) c.args.back) c.args.piece.now c.loop-j.piece c.loop-j.j c.mix.result _ (omega (arith, test, len))
    (c.mix.ensures ∙ ap (mix_of _) c.back_from.ensures) c.loop-j.invariant
