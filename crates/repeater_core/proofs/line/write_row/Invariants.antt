use Rattle.std.proofs.Common.{◌≡◌, length, map, take}
use Rattle.manchester_line.specs.Line.{is_signal}
use Rattle.repeater_core.specs.Steady.{texted}
use Rattle.repeater_core.proofs.line.write_row.Given as goal

-- the symbols below k are written
abbrev pub invariant-loop-k : goal.invariant-loop-k
invariant-loop-k l = record {
  len : length l.row ≡ length l.flags;
  written : take l.k l.row ≡ take l.k (texted (map is_signal l.flags) l.text);
}
