use Rattle.std.proofs.Common.{◌≡◌, ◌≤◌, ℕ, List, length}
use Rattle.load_plan.specs.declared.plan.Plan.{Plan}
use Rattle.line_probe.specs.Heard.{rows_of_taps}
use Rattle.line_probe.specs.declared.tap.Tap.{Tap}
use Rattle.netsim.proofs.TapTexts.{IsToldUpTo}
use Rattle.netsim.proofs.probe.write_taps.Given as goal

abbrev pub invariant-loop-k : goal.invariant-loop-k
invariant-loop-k g l = record {
  told : (plan : Plan) (taps : List Tap) (n : ℕ) → l.heard ≡ rows_of_taps plan taps l.from n → length taps ≡ length l.words → IsToldUpTo plan l.from n l.k l.words taps l.fn.world.written l.world.written;
  faults : l.fn.world.faults ≤ l.world.faults;
  held : l.world.held ≡ l.fn.world.held;
}
