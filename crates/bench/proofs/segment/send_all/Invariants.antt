use Rattle.std.proofs.Common.{◌≡◌, ◌+◌, All, length, take, drop}
use Rattle.bench.proofs.segment.send_all.Given as goal

-- the senders below k have stepped, and the rest have not
abbrev pub invariant-loop-k : goal.invariant-loop-k
invariant-loop-k l = record {
  places : length l.cable.positions ≡ length l.fn.cable.positions;
  stepped : All (λ s. s.t ≡ l.t + 1) (take l.k l.senders);
  waiting : All (λ s. s.t ≡ l.t) (drop l.k l.senders);
}
