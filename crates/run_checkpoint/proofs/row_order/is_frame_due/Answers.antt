use Rattle.std.proofs.Common.{◌∙◌}
use Rattle.run_checkpoint.specs.Ranges.{ended_frame}
use Rattle.run_checkpoint.proofs.EntriesSteps.{frame_due}
use Rattle.run_checkpoint.proofs.row_order.is_frame_due.Goals as goal

pub returns : goal.returns
returns c before is =
    c.is_next_frame.ensures
    ∙ rw (c.count_of-count.ensures, c.place_of-place.ensures, c.ended_frame-frame.ensures) (frame_due c.args.ended.now c.args.senders.now c.args.row.now.device before (ended_frame c.args.row.now.body) is)
