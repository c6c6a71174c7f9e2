use Rattle.std.proofs.Common.{sym, ◌∙◌, arith}
use Rattle.layout.specs.declared.lines.StationLine.{StationLine}
use Rattle.run_checkpoint.proofs.NamesFound.{name_after, name_here, no_name_left}
use Rattle.run_checkpoint.proofs.places.station_named.Goals as goal

pub returns-then-eq : goal.returns-then-eq
returns-then-eq c =
    c.stations.invariant
    ∙ name_here (λ (s : StationLine). s.name) c.args.stations.now c.stations.k c.stations.k c.index-stations-k.result c.as_bytes.result.now c.args.name.now c.stations-test.true
    (c.as_bytes.ensures.value ∙ c.as_str.ensures) (sym c.eq.ensures ∙ c.if-eq.true)

pub stations-preserved : goal.stations-preserved
stations-preserved c =
    c.stations.invariant
    ∙ name_after (λ (s : StationLine). s.name) c.args.stations.now c.stations.k c.stations.k c.index-stations-k.result c.as_bytes.result.now c.args.name.now c.stations-test.true
    (c.as_bytes.ensures.value ∙ c.as_str.ensures) (sym c.eq.ensures ∙ c.if-eq.false)

pub returns : goal.returns
returns c = c.stations.invariant ∙ no_name_left (λ (s : StationLine). s.name) c.args.stations.now c.stations.k c.stations.k c.args.name.now (omega (arith, c.stations-test.false))
