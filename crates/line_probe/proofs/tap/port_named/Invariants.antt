use Rattle.std.proofs.Common.{ℕ, ◌<◌}
use Rattle.line_probe.specs.Taps.{IsPortOf}
use Rattle.line_probe.proofs.tap.port_named.Given as goal

abbrev pub invariant-ports : goal.invariant-ports
invariant-ports l = (j : ℕ) → j < l.p → IsPortOf l.repeater j l.word → ⊥
