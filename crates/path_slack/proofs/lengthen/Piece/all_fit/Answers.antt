use Rattle.std.proofs.Common.{◌≤◌, All, subst}
use Rattle.std.proofs.lemmas.List.{take_all}
use Rattle.std.proofs.lemmas.List.Elements.{All-more}
use Rattle.mac_parameters.specs.Parameters.{greatest_place}
use Rattle.layout.specs.declared.lines.PortLine.{PortLine}
use Rattle.path_slack.specs.Lengthened.{moved_place}
use Rattle.path_slack.proofs.Verdicts.{only_true}
use Rattle.path_slack.proofs.lengthen.Piece.all_fit.Goals as goal

abbrev nowhere : PortLine
nowhere = record { segment = 0; at = 0 }

pub loop-port-preserved : goal.loop-port-preserved
loop-port-preserved c =
    All-more (λ (p : PortLine). moved_place c.args.self.segment c.args.self.high c.args.self.by p.segment p.at ≤ greatest_place) c.args.ports.now c.loop-port.port-index nowhere c.loop-port-test.true c.loop-port.invariant (c.fits.ensures.0 c.if-not-fits.false)

pub returns : goal.returns
returns c =
    only_true (All (λ (p : PortLine). moved_place c.args.self.segment c.args.self.high c.args.self.by p.segment p.at ≤ greatest_place) c.args.ports.now)
    (subst (All (λ (p : PortLine). moved_place c.args.self.segment c.args.self.high c.args.self.by p.segment p.at ≤ greatest_place)) (take_all c.loop-port.port-index c.args.ports.now c.loop-port-test.false) c.loop-port.invariant)
