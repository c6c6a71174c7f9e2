use Rattle.std.proofs.Common.{◌≡◌, map, drop}
use Rattle.layout_file.specs.Lines.{place_from}
use Rattle.layout_file.proofs.lines.place_of.Given as goal

abbrev pub invariant-loop-other : goal.invariant-loop-other
invariant-loop-other l = place_from 0 (map (λ s. s.now) l.names) l.name ≡ place_from l.number (map (λ s. s.now) (drop l.other-index l.names)) l.name
