use Rattle.std.proofs.Common.{◌≡◌, map, drop}
use Rattle.std.specs.List.{list_any}
use Rattle.wave_dump.specs.Waiting.{does_begin}
use Rattle.wave_dump.proofs.waiting.do_any_begin.Given as goal

abbrev pub invariant-loop-runs : goal.invariant-loop-runs
invariant-loop-runs l = list_any (does_begin l.t) (map (λ runs. runs.now) l.waiting) ≡ list_any (does_begin l.t) (map (λ runs. runs.now) (drop l.runs-index l.waiting))
