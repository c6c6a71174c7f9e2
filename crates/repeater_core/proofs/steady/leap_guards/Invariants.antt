use Rattle.std.proofs.Common.{◌≡◌, ◌++◌, length, map, take, drop}
use Rattle.std.specs.Fn.{iterate}
use Rattle.manchester_line.specs.Line.{is_signal}
use Rattle.repeater_core.specs.Steady.{at_each, guard_by, kinds_of}
use Rattle.repeater_core.proofs.steady.leap_guards.Given as goal

abbrev pub invariant-loop-k : goal.invariant-loop-k
invariant-loop-k l = record {
  len : length l.guards ≡ length l.fn.guards;
  states : take l.k l.guards ++ at_each (λ k g. iterate (guard_by k) l.n g) (kinds_of (drop l.k l.hears) (map is_signal (drop l.k l.emits))) (drop l.k l.guards) ≡ at_each (λ k g. iterate (guard_by k) l.n g) (kinds_of l.hears (map is_signal l.emits)) l.fn.guards;
  behind : drop l.k l.guards ≡ drop l.k l.fn.guards;
}
