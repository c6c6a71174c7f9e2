use Rattle.std.proofs.Common.{◌≡◌, ◌++◌, drop, map}
use Rattle.run_texts.specs.Texts.{lines_of_counts}
use Rattle.run_texts.proofs.counts.lines_of_counts.Given as goal

abbrev pub invariant-loop-k : goal.invariant-loop-k
invariant-loop-k l =
    lines_of_counts l.stations 0 (map (λ name. name.now) l.names) l.counts
    ≡ l.text ++ lines_of_counts l.stations l.k (map (λ name. name.now) (drop l.k l.names)) (drop l.k l.counts)
