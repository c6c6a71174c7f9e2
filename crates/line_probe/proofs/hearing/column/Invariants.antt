use Rattle.std.proofs.Common.{◌≡◌, ◌+◌, ◌≤◌, ℕ, List, length}
use Rattle.load_plan.specs.declared.plan.Plan.{Plan}
use Rattle.line_probe.specs.Heard.{rows_of_taps}
use Rattle.line_probe.specs.declared.tap.Tap.{Tap}
use Rattle.line_probe.proofs.Columns.{IsColumn}
use Rattle.line_probe.proofs.hearing.column.Given as goal

abbrev pub invariant-loop-rest : goal.invariant-loop-rest
invariant-loop-rest l =
    record {
      short : length l.symbols + length l.rest ≤ length l.heard;
      column : (plan : Plan) (all : List Tap) (from n : ℕ) (d : Tap) → l.heard ≡ rows_of_taps plan all from n → length all ≡ l.taps → IsColumn plan all l.tap from n d l.symbols l.rest;
    }

abbrev pub decreases-loop-rest : goal.decreases-loop-rest
decreases-loop-rest l = length l.rest
