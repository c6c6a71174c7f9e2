-- What the line of a port says (profile).
use Rattle.std.specs.Prelude.{ℕ}
use Rattle.port_partition.specs.Guard.{Guard}
use Rattle.run_checkpoint.specs.declared.guard_line.GuardLine.{GuardLine}

-- the guard, and for how many half bits the port rests
abbrev pub guard_of_line : GuardLine → Guard × ℕ
guard_of_line l = (
  record {
    closed = l.closed;
    mend = l.mend;
    struck = l.struck;
    in_row = l.in_row;
    clash_run = l.clash_run;
    clean_run = l.clean_run;
  },
  l.rest,
)
