use Rattle.std.proofs.Common.{◌≡◌, map, drop}
use Rattle.layout_file.specs.Arounds.{around}
use Rattle.layout_file.specs.RowFaults.{first_of}
use Rattle.layout_file.specs.Sites.{seen}
use Rattle.layout_file.proofs.rows.first_of.Given as goal

abbrev pub invariant-loop-test : goal.invariant-loop-test
invariant-loop-test l = first_of (around l.surroundings) l.tests (map seen l.sites) ≡ first_of (around l.surroundings) (drop l.test-index l.tests) (map seen l.sites)
