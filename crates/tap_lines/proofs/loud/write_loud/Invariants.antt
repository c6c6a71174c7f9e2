use Rattle.std.proofs.Common.{◌≡◌, length}
use Rattle.tap_lines.proofs.LoudLists.{ListedTo}
use Rattle.tap_lines.proofs.loud.write_loud.Given as goal

-- those of the taps below r are listed
abbrev pub invariant-loop-r : goal.invariant-loop-r
invariant-loop-r l = record {
  len : length l.numbers ≡ length l.fn.numbers;
  so_far : ListedTo l.u l.lines l.numbers l.count l.r;
}
