use Rattle.std.proofs.Common.{refl}
use Rattle.mac_receive.specs.Receiver.{receiver_step}
use Rattle.window_room.proofs.ReceiverRoom.{octets_few}
use Rattle.window_room.proofs.laws.frames_are_as_told.Goals as goal

pub returns : goal.returns
returns c = λ r heard sending n is. octets_few r heard sending n (receiver_step r heard sending).octets is refl
