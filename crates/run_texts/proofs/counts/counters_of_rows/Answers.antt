use Rattle.std.proofs.Common.{length, ap, arith}
use Rattle.std.proofs.lemmas.List.{length-map}
use Rattle.load_plan.proofs.PlansAreSound.{sound_of_plan}
use Rattle.run_texts.proofs.CountedRows.{length-counts_of}
use Rattle.run_texts.proofs.ShortNames.{short_names}
use Rattle.run_texts.proofs.counts.counters_of_rows.Goals as goal

pub lines_of_counts-requires-clause-names : goal.lines_of_counts-requires-clause-names
lines_of_counts-requires-clause-names c = rw (c.as_slice.ensures.value, c.in_ok-names.ensures) (short_names c.args.plan.now.layout (sound_of_plan c.args.plan.now))

pub lines_of_counts-requires-clause-devices : goal.lines_of_counts-requires-clause-devices
lines_of_counts-requires-clause-devices c =
    let names = c.in_ok-names.names.items in
    omega (
      arith,
      ap length c.as_slice-2.ensures.value,
      ap length c.in_ok-counts.ensures,
      length-counts_of c.args.plan.now c.args.rows.now,
      ap length c.in_ok-names.ensures,
      length-map names (λ name. name.now),
      ap length c.as_slice.ensures.value,
    )
