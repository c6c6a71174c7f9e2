use Rattle.std.proofs.Common.{◌≡◌, ◌+◌, drop}
use Rattle.run_picture.specs.Strangers.{first_stranger, stranger_from}
use Rattle.run_picture.proofs.strangers.find_stranger.Given as goal

abbrev pub invariant-lines : goal.invariant-lines
invariant-lines l = stranger_from l.layout (l.k + 1) (drop l.k l.lines) ≡ first_stranger l.layout l.lines
