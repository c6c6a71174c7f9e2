use Rattle.std.proofs.Common.{◌≡◌, ◌++◌}
use Rattle.std.specs.Vec.Iter.{into_iter_items}
use Rattle.tap_signals.proofs.emitting.listed.Given as goal

abbrev pub invariant-loop-stretches : goal.invariant-loop-stretches
invariant-loop-stretches l = l.signals ++ into_iter_items l.stretches-iterator ≡ l.fn.lists.items
