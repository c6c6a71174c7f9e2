use Rattle.std.proofs.Common.{◌≡◌, ◌+◌, ◌++◌, All, length, map, replicate, take, drop}
use Rattle.manchester_line.specs.declared.Sym.TheVariants.{Idle}
use Rattle.mac_transmit.specs.Calm.{after_all}
use Rattle.net_step.specs.CalmNets.{WaitsFor}
use Rattle.net_step.proofs.leaps.leap_senders.Given as goal

-- the senders so far have leapt, and the others have not
abbrev pub invariant-loop-sender : goal.invariant-loop-sender
invariant-loop-sender l = record {
  stepped : All (λ s. s.t ≡ l.t + l.count) (take l.sender-index l.senders);
  waiting : All (λ s. s.t ≡ l.t) (drop l.sender-index l.senders);
  calm : All (WaitsFor l.count) (drop l.sender-index l.senders);
  states : take l.sender-index l.senders ++ map (λ s. after_all s (replicate l.count Idle)) (drop l.sender-index l.senders) ≡ map (λ s. after_all s (replicate l.count Idle)) l.fn.senders;
}
