use Rattle.std.proofs.Common.{◌≡◌, map, drop}
use Rattle.layout_file.specs.GraphFaults.{first_apart, edges_of}
use Rattle.layout_file.specs.Sites.{seen}
use Rattle.layout_file.proofs.ColoursByTables.{first_apart_in}
use Rattle.layout_file.proofs.graph.first_apart.Given as goal

abbrev pub invariant-loop-site : goal.invariant-loop-site
invariant-loop-site l =
    first_apart l.parts (edges_of (map (λ s. s.now) l.segments) (map seen l.sites)) (map seen l.sites)
    ≡ first_apart_in l.colours.items (map seen (drop l.site-index l.sites))
