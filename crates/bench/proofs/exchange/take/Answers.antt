use Rattle.std.proofs.Common.{◌∙◌, sym, true≢false}
use Rattle.bench.proofs.exchange.take.Goals as goal

pub take-requires-clause-honest : goal.take-requires-clause-honest
take-requires-clause-honest g c κs within plan _ unspoiled = absurd (true≢false (sym c.requires ∙ unspoiled))
