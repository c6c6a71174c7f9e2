use Rattle.std.proofs.Common.{ℕ, ◌+◌, ◌<◌, get_or}
use Rattle.manchester_line.specs.declared.Sym.TheVariants.{Idle}
use Rattle.manchester_line.specs.Line.{is_signal}
use Rattle.port_partition.specs.Guard.{new_guard}
use Rattle.port_partition.specs.Alike.{HasNoEvent}
use Rattle.repeater_core.specs.Limits.{most_calm}
use Rattle.repeater_core.specs.Step.{collides}
use Rattle.repeater_core.proofs.steady.guards_calm.Given as goal

-- the guards below k have no event, and in one half bit more one of them has
abbrev pub invariant-loop-k : goal.invariant-loop-k
invariant-loop-k l = record {
  none : (q : ℕ) → q < l.k → HasNoEvent (is_signal (get_or l.hears q Idle)) (collides (get_or l.hears q Idle) (get_or l.emits q Idle)) (is_signal (get_or l.emits q Idle)) l.calm (get_or l.guards q new_guard);
  some : l.calm < most_calm
      → ¬ ((q : ℕ) → q < l.k → HasNoEvent (is_signal (get_or l.hears q Idle)) (collides (get_or l.hears q Idle) (get_or l.emits q Idle)) (is_signal (get_or l.emits q Idle)) (l.calm + 1) (get_or l.guards q new_guard));
}
