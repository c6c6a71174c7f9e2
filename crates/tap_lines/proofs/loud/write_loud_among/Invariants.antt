use Rattle.std.proofs.Common.{◌≡◌, ◌≤◌, length}
use Rattle.tap_lines.proofs.AmongLists.{AmongTo}
use Rattle.tap_lines.proofs.loud.write_loud_among.Given as goal

-- those of the first i taps are listed
abbrev pub invariant-loop-i : goal.invariant-loop-i
invariant-loop-i l = record {
  len : length l.numbers ≡ length l.fn.numbers;
  few : l.count ≤ length l.lines;
  so_far : AmongTo l.u l.lines l.among.taps l.i l.numbers l.count;
}
