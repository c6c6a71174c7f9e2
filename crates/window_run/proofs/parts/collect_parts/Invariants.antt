use Rattle.std.proofs.Common.{◌≡◌, ◌++◌, All, map}
use Rattle.std.specs.Vec.Iter.{into_iter_items}
use Rattle.net_parts.specs.OutputsOfParts.{rows_of_part, captures_of_part}
use Rattle.net_parts.specs.Windows.{windows}
use Rattle.window_run.proofs.parts.collect_parts.Given as goal

-- what was handed out, and what the parts still to come hand out, is all
abbrev pub invariant-loop-part : goal.invariant-loop-part
invariant-loop-part g l =
    All (λ s. g.K.Part.at s.part ≡ windows (g.K.Part.plan s.part)) (into_iter_items l.part-iterator)
    × (l.rows ++ map (λ s. rows_of_part (g.K.Part.plan s.part) (g.K.Part.number s.part)) (into_iter_items l.part-iterator)
    ≡ l.fn.rows ++ map (λ s. rows_of_part (g.K.Part.plan s.part) (g.K.Part.number s.part)) l.fn.parts.items)
    × (l.captures.items ++ map (λ s. captures_of_part (g.K.Part.plan s.part) (g.K.Part.number s.part)) (into_iter_items l.part-iterator)
    ≡ l.fn.captures.items ++ map (λ s. captures_of_part (g.K.Part.plan s.part) (g.K.Part.number s.part)) l.fn.parts.items)
