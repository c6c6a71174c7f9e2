use Rattle.std.proofs.Common.{◌≡◌, ◌*◌, [], ◌∷◌, length, take}
use Rattle.std.specs.List.{flat_map}
use Rattle.repeater_core.specs.Steady.{texted}
use Rattle.repeater_core.proofs.line.write_pairs.Given as goal

-- the rows of the texts below k are written
abbrev pub invariant-loop-k : goal.invariant-loop-k
invariant-loop-k l = record {
  len : length l.rows ≡ length l.texts * 2;
  written : take (l.k * 2) l.rows ≡ flat_map (texted (l.first ∷ l.second ∷ [])) (take l.k l.texts);
}
