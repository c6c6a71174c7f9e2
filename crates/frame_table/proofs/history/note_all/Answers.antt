use Rattle.std.proofs.Common.{◌+◌, ap, ◌∙◌, length, take_all}
use Rattle.frame_table.specs.Histories.{history}
use Rattle.frame_table.proofs.HistorySteps.{each_more}
use Rattle.frame_table.proofs.history.note_all.Goals as goal

pub loop-event-preserved : goal.loop-event-preserved
loop-event-preserved c =
    record {
      count = c.note.auto.histories ∙ c.loop-event.invariant.count;
      each = each_more c.args.events.now c.loop-event.event-index (length c.args.histories.now) _ c.loop-event.histories c.note.new.histories c.loop-event-test.true c.loop-event.invariant.count c.loop-event.invariant.each c.in_ok-note.ensures;
    }

pub returns : goal.returns
returns c = λ k d low. c.loop-event.invariant.each k d low ∙ ap (history (k + 1)) (take_all c.loop-event.event-index c.args.events.now c.loop-event-test.false)
