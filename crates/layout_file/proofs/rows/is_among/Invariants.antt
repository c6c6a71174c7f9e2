use Rattle.std.proofs.Common.{◌≡◌, map, drop}
use Rattle.layout_file.specs.RowFaults.{is_among}
use Rattle.layout_file.proofs.rows.is_among.Given as goal

abbrev pub invariant-loop-other : goal.invariant-loop-other
invariant-loop-other l = is_among l.name (map (λ s. s.now) l.names) ≡ is_among l.name (map (λ s. s.now) (drop l.other-index l.names))
