use Rattle.std.proofs.Common.{arith}
use Rattle.run_texts.proofs.ShortNames.{short_at}
use Rattle.run_texts.proofs.counts.lines_of_counts.Goals as goal

pub add_counters-requires-clause-name : goal.add_counters-requires-clause-name
add_counters-requires-clause-name c = short_at c.args.names.now c.loop-k.k _ c.requires.names (omega (arith, c.requires.devices))
