use Rattle.std.proofs.Common.{◌≡◌, ◌++◌, drop, flat_map, map}
use Rattle.run_checkpoint.specs.Entries.{entries_of, lines_of_entries}
use Rattle.run_checkpoint.proofs.waiting.add_entries.Given as goal

abbrev pub invariant-rows : goal.invariant-rows
invariant-rows l =
    l.text ++ flat_map (λ line. line) (lines_of_entries l.layout (entries_of (drop l.k l.rows) (map (λ taken. taken.now) l.waiting.items)))
    ≡ l.fn.text ++ flat_map (λ line. line) (lines_of_entries l.layout (entries_of l.rows l.captures))
