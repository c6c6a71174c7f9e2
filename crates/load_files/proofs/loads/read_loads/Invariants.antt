use Rattle.std.proofs.Common.{◌≡◌, ◌<◌, ◌≤◌, length, All}
use Rattle.load_files.specs.Loaded.{IsLoadedSo, most_of_loads}
use Rattle.load_files.proofs.loads.read_loads.Given as goal

abbrev pub invariant-loop-k : goal.invariant-loop-k
invariant-loop-k g l =
    IsLoadedSo (g.S.Store.held l.fn.store) l.stations l.loads l.before l.k
    × (length l.loads ≡ l.k)
    × (l.before ≤ most_of_loads)
    × (0 < length l.room.items)
    × All (λ rs. length rs ≤ 4194304) l.loads
    × (g.S.Store.held l.store ≡ g.S.Store.held l.fn.store)
    × (g.S.Store.read_faults l.fn.store ≤ g.S.Store.read_faults l.store)
    × (g.S.Store.write_faults l.fn.store ≤ g.S.Store.write_faults l.store)
