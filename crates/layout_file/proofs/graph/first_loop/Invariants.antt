use Rattle.std.proofs.Common.{◌≡◌, [], map, drop}
use Rattle.layout_file.specs.GraphFaults.{first_loop}
use Rattle.layout_file.specs.Sites.{seen}
use Rattle.layout_file.proofs.ColoursByTables.{loop_in}
use Rattle.layout_file.proofs.graph.first_loop.Given as goal

abbrev pub invariant-loop-site : goal.invariant-loop-site
invariant-loop-site l =
    first_loop l.parts (map (λ s. s.now) l.segments) [] (map seen l.sites)
    ≡ loop_in l.colours.items (map (λ s. s.now) l.segments) (map seen (drop l.site-index l.sites))
