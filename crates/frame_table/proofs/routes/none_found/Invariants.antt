use Rattle.std.proofs.Common.{◌≡◌, ◌<◌, ℕ, None, Option, get_or, length}
use Rattle.frame_table.specs.declared.routes.Led.{Led}
use Rattle.frame_table.proofs.routes.none_found.Given as goal

abbrev pub invariant-loop-k : goal.invariant-loop-k
invariant-loop-k l = record {
  count : length l.routes.items ≡ l._k;
  none : (k : ℕ) (d : Option Led) → k < l._k → get_or l.routes.items k d ≡ None;
}
