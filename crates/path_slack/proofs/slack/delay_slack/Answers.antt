use Rattle.std.proofs.Common.{◌-◌, sym, ◌∙◌}
use Rattle.std.proofs.lemmas.Bool.{false≢true}
use Rattle.mac_parameters.specs.Parameters.{greatest_delay}
use Rattle.layout.specs.declared.ways.Way.TheVariants as way
use Rattle.path_slack.specs.Crossings.{ThroughRepeater}
use Rattle.path_slack.specs.Lengthened.{lengthened_delay}
use Rattle.path_slack.proofs.DelayGrowth.{delay_growth, delay_bound}
use Rattle.path_slack.proofs.SlackOf.{is_slack, worst_short}
use Rattle.path_slack.proofs.slack.delay_slack.Goals as goal

pub reckoned-requires : goal.reckoned-requires
reckoned-requires c = λ w is.
    worst_short c.args.layout.now way.Repeater c.args.repeater (ThroughRepeater c.args.layout.now c.args.repeater) (lengthened_delay c.args.layout.now c.args.repeater) c.requires.sound (λ x. delay_growth c.args.layout.now c.args.repeater x c.get.result.now c.get.ensures)
    (λ over. false≢true (sym c.if-over.false ∙ c.requires.over.1 over)) c.worst_through.result w c.worst_through.ensures.worst is

pub returns-clause-slack : goal.returns-clause-slack
returns-clause-slack c =
    is_slack c.args.layout.now way.Repeater c.args.repeater (ThroughRepeater c.args.layout.now c.args.repeater) (lengthened_delay c.args.layout.now c.args.repeater) c.requires.sound (λ x. delay_growth c.args.layout.now c.args.repeater x c.get.result.now c.get.ensures)
    (λ over. false≢true (sym c.if-over.false ∙ c.requires.over.1 over)) (greatest_delay - c.get.result.now.delay)
    (λ x. delay_bound c.args.layout.now c.args.repeater x c.get.result.now c.get.ensures c.requires.sound)
    c.worst_through.result c.reckoned.result c.worst_through.ensures.worst c.reckoned.ensures
