use Rattle.std.proofs.Common.{◌≡◌, ◌++◌}
use Rattle.std.specs.Vec.Iter.{into_iter_items}
use Rattle.net_step.proofs.plain.listed.Given as goal

-- the captures so far are in the list, and the rest still is to come
abbrev pub invariant-loop-taken : goal.invariant-loop-taken
invariant-loop-taken l = l.list ++ into_iter_items l.taken-iterator ≡ l.fn.captures.items
