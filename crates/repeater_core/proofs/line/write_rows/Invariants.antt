use Rattle.std.proofs.Common.{◌≡◌, ◌*◌, length, map, take}
use Rattle.std.specs.List.{flat_map}
use Rattle.manchester_line.specs.Line.{is_signal}
use Rattle.repeater_core.specs.Steady.{texted}
use Rattle.repeater_core.proofs.line.write_rows.Given as goal

-- the rows of the texts below k are written
abbrev pub invariant-loop-k : goal.invariant-loop-k
invariant-loop-k l = record {
  len : length l.rows ≡ length l.texts * length l.flags;
  written : take (l.k * length l.flags) l.rows ≡ flat_map (texted (map is_signal l.flags)) (take l.k l.texts);
}
