use Rattle.std.proofs.Common.{◌≡◌, map, take}
use Rattle.run_checkpoint.proofs.waiting.all_waiting.Given as goal

abbrev pub invariant-loop-taken : goal.invariant-loop-taken
invariant-loop-taken l = map (λ taken. taken.now) l.waiting.items ≡ take l.taken-index l.captures
