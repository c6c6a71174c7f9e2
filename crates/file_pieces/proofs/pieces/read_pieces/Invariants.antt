use Rattle.std.proofs.Common.{◌≡◌, ◌≤◌, ◌+◌, ◌-◌}
use Rattle.file_pieces.specs.GivenPieces.{IsGiven}
use Rattle.file_pieces.proofs.pieces.read_pieces.Given as goal

abbrev pub invariant-loop-seen : goal.invariant-loop-seen
invariant-loop-seen g l =
    (l.seen ≤ l.limit + 1)
    × IsGiven g.T.Taker.given l.name (g.S.Store.held l.fn.store) l.seen l.taker
    × (g.S.Store.held l.store ≡ g.S.Store.held l.fn.store)
    × (g.S.Store.read_faults l.fn.store ≤ g.S.Store.read_faults l.store)
    × (g.S.Store.write_faults l.fn.store ≤ g.S.Store.write_faults l.store)

abbrev pub decreases-loop-seen : goal.decreases-loop-seen
decreases-loop-seen g l = l.limit + 1 - l.seen
