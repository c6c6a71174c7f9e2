use Rattle.std.proofs.Common.{sym, ap, ◌∙◌}
use Rattle.tap_lines.specs.TapLines.{line_extended}
use Rattle.tap_lines.proofs.EndsOfSignals.{idle_piece}
use Rattle.tap_lines.proofs.line.Line.go_on.Goals as goal

pub returns-else-goes_on : goal.returns-else-goes_on
returns-else-goes_on c =
    c.rest.ensures
    ∙ ap (line_extended c.args.self.now) (idle_piece c.args.piece.now (λ j h. c.requires.alike j h ∙ sym c.goes_on.ensures ∙ c.if-goes_on.false))
