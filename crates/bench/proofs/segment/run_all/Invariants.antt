use Rattle.std.proofs.Common.{◌≡◌, All, length}
use Rattle.bench.proofs.segment.run_all.Given as goal

abbrev pub invariant-loop-t : goal.invariant-loop-t
invariant-loop-t l = record {
  places : length l.cable.positions ≡ length l.senders;
  times : All (λ s. s.t ≡ l.t) l.senders;
}
