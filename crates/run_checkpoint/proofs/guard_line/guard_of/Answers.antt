use Rattle.std.proofs.Common.{refl, sym}
use Rattle.run_checkpoint.specs.LineForms.{guard_form}
use Rattle.run_checkpoint.proofs.guard_line.guard_of.Goals as goal

pub returns : goal.returns
unfolding guard_form
returns c =
    rw (
      c.in_ok-rest.ensures,
      c.in_ok-closed.ensures,
      c.in_ok-in_row.ensures,
      c.in_ok-clash_run.ensures,
      c.in_ok-clean_run.ensures,
      c.in_ok-rests.ensures,
      sym c.if-not-is_line_end.ensures,
    ) refl
