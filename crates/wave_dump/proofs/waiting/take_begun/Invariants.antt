use Rattle.std.proofs.Common.{◌≡◌, ◌++◌, map, take, drop}
use Rattle.wave_dump.specs.Waiting.{runs_after}
use Rattle.wave_dump.proofs.waiting.take_begun.Given as goal

abbrev pub invariant-taps : goal.invariant-taps
invariant-taps l = map (λ runs. runs.now) l.waiting ≡ map (runs_after l.t) (map (λ runs. runs.now) (take l.k l.fn.waiting)) ++ map (λ runs. runs.now) (drop l.k l.fn.waiting)
