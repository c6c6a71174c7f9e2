use Rattle.std.proofs.Common.{◌≤◌, length, drop}
use Rattle.log_meter.specs.Figures.{senders}
use Rattle.log_meter.specs.Tallies.{AreTalliesOf, IsRow}
use Rattle.log_meter.proofs.tallies.tallies_of.Given as goal

abbrev pub invariant-loop-i : goal.invariant-loop-i
invariant-loop-i l =
    record {
      told : AreTalliesOf (drop l.i l.lines) l.tallies;
      row : IsRow l.row.name.now l.row.count (senders (drop l.i l.lines));
      within : l.i ≤ length l.lines;
    }

abbrev pub decreases-loop-i : goal.decreases-loop-i
decreases-loop-i l = l.i
