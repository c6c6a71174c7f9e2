use Rattle.std.proofs.Common.{◌≡◌, map, drop}
use Rattle.layout_file.specs.GraphFaults.{edges_of}
use Rattle.layout.specs.Joined.{colours}
use Rattle.layout_file.specs.Sites.{seen}
use Rattle.layout_file.proofs.ColoursByTables.{painted_by_all}
use Rattle.layout_file.proofs.graph.all_colours.Given as goal

abbrev pub invariant-loop-site : goal.invariant-loop-site
invariant-loop-site l =
    colours l.parts (edges_of (map (λ s. s.now) l.segments) (map seen l.sites))
    ≡ painted_by_all l.colours.items (map (λ s. s.now) l.segments) (map seen (drop l.site-index l.sites))
