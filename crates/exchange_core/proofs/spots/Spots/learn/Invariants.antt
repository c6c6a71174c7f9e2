use Rattle.std.proofs.Common.{◌≡◌, ◌≢◌, ◌<◌, ℕ, get_or, length}
use Rattle.exchange_core.proofs.spots.Spots.learn.Given as goal

abbrev pub invariant-loop-k : goal.invariant-loop-k
invariant-loop-k l = record {
  mine : (j : ℕ) → j < l.k → get_or l.self.parts.items (get_or l.edges j 0) 0 ≡ l.part;
  others : (e : ℕ) → ((j : ℕ) → j < length l.edges → get_or l.edges j 0 ≢ e) → get_or l.self.parts.items e 0 ≡ get_or l.fn.self.parts.items e 0;
}
