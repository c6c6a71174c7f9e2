use Rattle.std.proofs.Common.{◌≡◌, map, take}
use Rattle.wave_dump.proofs.dump.all_waiting.Given as goal

abbrev pub invariant-loop-runs : goal.invariant-loop-runs
invariant-loop-runs l = map (λ runs. runs.now) l.waiting.items ≡ take l.runs-index l.lists
