use Rattle.std.proofs.Common.{◌∙◌, sym, true≢false}
use Rattle.part_tests.proofs.shares.take.Goals as goal

pub take-requires-clause-honest : goal.take-requires-clause-honest
take-requires-clause-honest c κs plan _ unspoiled = absurd (true≢false (sym c.requires ∙ unspoiled))
