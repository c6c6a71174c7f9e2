use Rattle.std.proofs.Common.{◌≡◌, ◌+◌, map, drop, ◌++◌}
use Rattle.toml.specs.View.{table_view}
use Rattle.layout_file.specs.Spots.{spots_of_rows}
use Rattle.layout_file.specs.Sites.{seen}
use Rattle.layout_file.proofs.sites.push_rows.Given as goal

abbrev pub invariant-loop-members : goal.invariant-loop-members
invariant-loop-members l =
    map seen l.fn.sites.items ++ spots_of_rows l.shape 1 (map (λ t. table_view t.now) l.rows)
    ≡ map seen l.sites.items ++ spots_of_rows l.shape (l.row + 1) (map (λ t. table_view t.now) (drop l.members-index l.rows))
