use Rattle.run_texts.proofs.ShortNames.{short_names}
use Rattle.run_texts.proofs.log.log_of_rows.Goals as goal

pub lines_of_rows-requires : goal.lines_of_rows-requires
lines_of_rows-requires c = rw (c.as_slice.ensures.value, c.in_ok-names.ensures) (short_names c.args.layout.now c.requires)
