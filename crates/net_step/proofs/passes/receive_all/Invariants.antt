use Rattle.std.proofs.Common.{◌≡◌, ◌+◌, List, All, length, take, drop}
use Rattle.mac_receive.specs.Receiver.{Receiving}
use Rattle.network.specs.Net.{receptions}
use Rattle.kept_devices.specs.KeptReceivers.{AllHear}
use Rattle.net_step.specs.KeptNet.{AllGive}
use Rattle.net_step.proofs.passes.receive_all.Given as goal

-- the receivers below k have stepped, and the rest have not
abbrev pub invariant-loop-k : goal.invariant-loop-k
invariant-loop-k l = record {
  len : length l.receivers ≡ length l.heard;
  len_received : length l.received ≡ length l.heard;
  stepped : All (λ r. r.steps ≡ l.t + 1) (take l.k l.receivers);
  waiting : All (λ r. r.steps ≡ l.t) (drop l.k l.receivers);
  rest : drop l.k l.receivers ≡ drop l.k l.fn.receivers;
  given : (rs : List Receiving) → AllHear rs l.fn.receivers → AllGive (receptions (take l.k l.heard) (take l.k l.emitted) (take l.k rs)) (take l.k l.receivers) (take l.k l.received);
}
