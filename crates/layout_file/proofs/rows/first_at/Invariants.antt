use Rattle.std.proofs.Common.{◌≡◌, map, drop}
use Rattle.layout_file.specs.Arounds.{around}
use Rattle.layout_file.specs.RowFaults.{first_at}
use Rattle.layout_file.specs.Sites.{seen}
use Rattle.layout_file.proofs.rows.first_at.Given as goal

abbrev pub invariant-loop-site : goal.invariant-loop-site
invariant-loop-site l = first_at (around l.surroundings) l.test (map seen l.sites) ≡ first_at (around l.surroundings) l.test (map seen (drop l.site-index l.sites))
