use Rattle.std.proofs.Common.{◌≡◌, ◌++◌, drop, flat_map, map}
use Rattle.run_checkpoint.specs.PortNames.{named_port}
use Rattle.run_checkpoint.specs.States.{lines_of_guards}
use Rattle.run_checkpoint.proofs.writing.add_guards.Given as goal

abbrev pub invariant-ports : goal.invariant-ports
invariant-ports l =
    l.text ++ flat_map (λ line. line) (lines_of_guards (map named_port (drop l.k l.ports)) (drop l.k l.guards) (drop l.k l.rests))
    ≡ l.fn.text ++ flat_map (λ line. line) (lines_of_guards (map named_port l.ports) l.guards l.rests)
