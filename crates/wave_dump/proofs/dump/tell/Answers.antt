use Rattle.std.proofs.Common.{sym, ◌∙◌}
use Rattle.wave_dump.proofs.Taken.{none_begin}
use Rattle.wave_dump.proofs.dump.tell.Goals as goal

pub returns-then-not-do_any_begin-clause-waiting : goal.returns-then-not-do_any_begin-clause-waiting
returns-then-not-do_any_begin-clause-waiting c =
    sym (none_begin c.args.t _ (sym c.do_any_begin.ensures ∙ c.if-not-do_any_begin.true))
