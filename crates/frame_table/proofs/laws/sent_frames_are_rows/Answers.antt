use Rattle.frame_table.proofs.SentFrames as sent
use Rattle.frame_table.proofs.laws.sent_frames_are_rows.Goals as goal

pub returns : goal.returns
returns c = sent.sent_frames_are_rows
