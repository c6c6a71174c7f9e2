use Rattle.std.proofs.Common.{◌≡◌, ◌+◌, ◌++◌, All, length, map, take, drop}
use Rattle.network.specs.Net.{sendings}
use Rattle.net_step.proofs.passes.send_all.Given as goal

-- the senders below k have stepped, and the rest have not
abbrev pub invariant-loop-k : goal.invariant-loop-k
invariant-loop-k l =
    let rest = sendings (drop l.k l.heard) (drop l.k l.senders) in
    let all = sendings l.heard l.fn.senders in
    record {
      len : length l.senders ≡ length l.heard;
      len_emitted : length l.emitted ≡ length l.heard;
      len_sent : length l.sent ≡ length l.heard;
      stepped : All (λ s. s.t ≡ l.t + 1) (take l.k l.senders);
      waiting : All (λ s. s.t ≡ l.t) (drop l.k l.senders);
      states : take l.k l.senders ++ map (λ o. o.state) rest ≡ map (λ o. o.state) all;
      emitted : take l.k l.emitted ++ map (λ o. o.emitted) rest ≡ map (λ o. o.emitted) all;
      events : take l.k l.sent ++ map (λ o. o.event) rest ≡ map (λ o. o.event) all;
    }
