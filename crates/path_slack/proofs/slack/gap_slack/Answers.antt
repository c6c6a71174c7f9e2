use Rattle.std.proofs.Common.{◌-◌, sym, ◌∙◌}
use Rattle.std.proofs.lemmas.Bool.{false≢true}
use Rattle.mac_parameters.specs.Parameters.{greatest_place}
use Rattle.layout.specs.declared.ways.Way.TheVariants as way
use Rattle.path_slack.specs.Crossings.{OverPiece}
use Rattle.path_slack.specs.Lengthened.{lengthened_gap}
use Rattle.path_slack.proofs.GapGrowth.{gap_growth, gap_fits}
use Rattle.path_slack.proofs.SlackOf.{is_slack, worst_short}
use Rattle.path_slack.proofs.slack.gap_slack.Goals as goal

pub reckoned-requires : goal.reckoned-requires
reckoned-requires c = λ w is.
    worst_short c.args.layout.now way.Cable c.args.branches.now.segment (OverPiece c.args.layout.now c.args.branches.now.segment c.args.high) (lengthened_gap c.args.layout.now c.args.branches.now.segment c.args.high) c.requires.sound (λ x. gap_growth c.args.layout.now c.args.branches.now.segment c.args.high x)
    (λ over. false≢true (sym c.if-over.false ∙ c.requires.over.1 over)) c.worst_over.result w c.worst_over.ensures is

pub returns : goal.returns
returns c =
    is_slack c.args.layout.now way.Cable c.args.branches.now.segment (OverPiece c.args.layout.now c.args.branches.now.segment c.args.high) (lengthened_gap c.args.layout.now c.args.branches.now.segment c.args.high) c.requires.sound (λ x. gap_growth c.args.layout.now c.args.branches.now.segment c.args.high x)
    (λ over. false≢true (sym c.if-over.false ∙ c.requires.over.1 over)) (greatest_place - c.args.last)
    (λ x. gap_fits c.args.layout.now c.args.branches.now.segment c.args.high c.args.last x c.requires.sound c.requires.last c.requires.high c.requires.above)
    c.worst_over.result c.reckoned.result c.worst_over.ensures c.reckoned.ensures
