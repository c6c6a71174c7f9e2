use Rattle.std.proofs.Common.{◌++◌, ◌∷◌, [], ap, sym, ◌∙◌}
use Rattle.frame_table.proofs.PortChanges.{changes_none, changes_some}
use Rattle.frame_table.proofs.ports.changes_of.Goals as goal

pub loop-event-preserved-in_default : goal.loop-event-preserved-in_default
loop-event-preserved-in_default c =
    c.loop-event.invariant ∙ sym (changes_none c.args.p c.args.events.now c.loop-event.event-index _ c.change_by.result c.loop-event-test.true c.change_by.ensures c.in_default.is)

pub loop-event-preserved : goal.loop-event-preserved
loop-event-preserved c =
    c.in_ok-push.ensures.ok ∙ ap (λ cs. cs ++ c.in-Some.change ∷ []) c.loop-event.invariant
    ∙ sym (changes_some c.args.p c.args.events.now c.loop-event.event-index _ c.change_by.result c.in-Some.change c.loop-event-test.true c.change_by.ensures c.in-Some.is)
