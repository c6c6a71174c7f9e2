use Rattle.reception_laws.proofs.ReceivedFrames.{good_frame_is_received}
use Rattle.reception_laws.proofs.laws.good_frame_is_received.Goals as goal

pub returns : goal.returns
returns c = good_frame_is_received
