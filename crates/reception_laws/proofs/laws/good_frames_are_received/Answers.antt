use Rattle.reception_laws.proofs.NetworkReceptions.{good_frames_are_received}
use Rattle.reception_laws.proofs.laws.good_frames_are_received.Goals as goal

pub returns : goal.returns
returns c = good_frames_are_received
