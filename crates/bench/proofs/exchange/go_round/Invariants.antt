use Rattle.std.proofs.Common.{◌≡◌, true}
use Rattle.bench.proofs.exchange.go_round.Given as goal

abbrev pub invariant-loop-window : goal.invariant-loop-window
invariant-loop-window g l = l.far.spoiled ≡ true
