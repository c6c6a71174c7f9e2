use Rattle.std.proofs.Common.{◌≤◌, All, subst, sym, ◌∙◌, arith}
use Rattle.std.proofs.lemmas.Bool.{false≢true}
use Rattle.std.proofs.lemmas.List.{take_all}
use Rattle.mac_parameters.specs.Parameters.{greatest_place}
use Rattle.layout.specs.declared.lines.PortLine.{PortLine}
use Rattle.layout.specs.declared.lines.RepeaterLine.{RepeaterLine}
use Rattle.layout.specs.declared.lines.StationLine.{StationLine}
use Rattle.layout.proofs.SoundTaps.{at_all}
use Rattle.path_slack.specs.Lengthened.{moved_place, lengthened_gap, KeepsBounds}
use Rattle.path_slack.proofs.FitsInBounds.{all_more}
use Rattle.path_slack.proofs.LongerGaps.{stations_fit, ports_fit, all_kept}
use Rattle.path_slack.proofs.Verdicts.{only_true, only_false}
use Rattle.path_slack.proofs.lengthen.gap_fits.Goals as goal

pub returns-then-not-fits : goal.returns-then-not-fits
returns-then-not-fits c =
    only_false (KeepsBounds (lengthened_gap c.args.layout.now c.args.segment c.args.high c.args.x))
    (λ keeps. false≢true (sym c.if-not-fits.true ∙ c.fits.ensures.1
    (at_all (λ (s : StationLine). moved_place c.args.segment c.args.high c.args.x s.segment s.at ≤ greatest_place) c.args.layout.now.stations c.loop-k.k c.get-station.result.now (stations_fit c.args.layout.now c.args.segment c.args.high c.args.x keeps) c.get-station.ensures)))

pub loop-k-preserved : goal.loop-k-preserved
loop-k-preserved c =
    all_more (λ (s : StationLine). moved_place c.args.segment c.args.high c.args.x s.segment s.at ≤ greatest_place) c.args.layout.now.stations c.loop-k.k c.get-station.result.now c.get-station.ensures c.loop-k.invariant (c.fits.ensures.0 c.if-not-fits.false)

pub returns-then-not-all_fit : goal.returns-then-not-all_fit
returns-then-not-all_fit c =
    only_false (KeepsBounds (lengthened_gap c.args.layout.now c.args.segment c.args.high c.args.x))
    (λ keeps. false≢true (sym c.if-not-all_fit.true ∙ c.all_fit.ensures.1
    (subst (All (λ (p : PortLine). moved_place c.args.segment c.args.high c.args.x p.segment p.at ≤ greatest_place)) (sym c.as_slice-ports.ensures)
    (at_all (λ (r : RepeaterLine). All (λ (p : PortLine). moved_place c.args.segment c.args.high c.args.x p.segment p.at ≤ greatest_place) r.ports) c.args.layout.now.repeaters c.loop-r.r c.get.result.now (ports_fit c.args.layout.now c.args.segment c.args.high c.args.x keeps) c.get.ensures))))

pub loop-r-preserved : goal.loop-r-preserved
loop-r-preserved c =
    all_more (λ (r : RepeaterLine). All (λ (p : PortLine). moved_place c.args.segment c.args.high c.args.x p.segment p.at ≤ greatest_place) r.ports) c.args.layout.now.repeaters c.loop-r.r c.get.result.now c.get.ensures c.loop-r.invariant
    (subst (All (λ (p : PortLine). moved_place c.args.segment c.args.high c.args.x p.segment p.at ≤ greatest_place)) c.as_slice-ports.ensures (c.all_fit.ensures.0 c.if-not-all_fit.false))

pub returns : goal.returns
returns c =
    only_true (KeepsBounds (lengthened_gap c.args.layout.now c.args.segment c.args.high c.args.x))
    (all_kept c.args.layout.now c.args.segment c.args.high c.args.x c.requires
    (subst (All (λ (s : StationLine). moved_place c.args.segment c.args.high c.args.x s.segment s.at ≤ greatest_place)) (take_all c.loop-k.k c.args.layout.now.stations (omega arith)) c.loop-k.invariant)
    (subst (All (λ (r : RepeaterLine). All (λ (p : PortLine). moved_place c.args.segment c.args.high c.args.x p.segment p.at ≤ greatest_place) r.ports)) (take_all c.loop-r.r c.args.layout.now.repeaters (omega arith)) c.loop-r.invariant))
