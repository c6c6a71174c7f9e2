use Rattle.std.proofs.Common.{◌≡◌, map, take}
use Rattle.mac_transmit.specs.Resuming.{state_of}
use Rattle.net_step.proofs.states.states_of.Given as goal

abbrev pub invariant-loop-sender : goal.invariant-loop-sender
invariant-loop-sender l = l.states ≡ map state_of (take l.sender-index l.senders)
