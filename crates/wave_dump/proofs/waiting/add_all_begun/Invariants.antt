use Rattle.std.proofs.Common.{◌≡◌, ◌++◌, map, drop}
use Rattle.wave_dump.specs.Waiting.{begun_values}
use Rattle.wave_dump.proofs.waiting.add_all_begun.Given as goal

abbrev pub invariant-taps : goal.invariant-taps
invariant-taps l = l.text ++ begun_values l.t l.k (map (λ runs. runs.now) (drop l.k l.waiting)) ≡ l.fn.text ++ begun_values l.t 0 (map (λ runs. runs.now) l.waiting)
