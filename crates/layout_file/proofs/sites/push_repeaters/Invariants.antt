use Rattle.std.proofs.Common.{◌≡◌, ◌+◌, map, drop, ◌++◌}
use Rattle.toml.specs.View.{table_view}
use Rattle.layout_file.specs.Spots.{repeaters}
use Rattle.layout_file.specs.Sites.{seen}
use Rattle.layout_file.proofs.sites.push_repeaters.Given as goal

abbrev pub invariant-loop-members : goal.invariant-loop-members
invariant-loop-members l =
    map seen l.fn.sites.items ++ repeaters 1 (map (λ t. table_view t.now) l.repeater_rows)
    ≡ map seen l.sites.items ++ repeaters (l.row + 1) (map (λ t. table_view t.now) (drop l.members-index l.repeater_rows))
