use Rattle.std.proofs.Common.{◌≡◌, length}
use Rattle.net_parts.specs.RepeaterParts.{edges_before}
use Rattle.turn_run.specs.PartsInTurn.{AreBetween}
use Rattle.turn_run.proofs.ParcelsOnTheirWay.{back_to}
use Rattle.turn_run.proofs.repeaters.run_repeaters.Given as goal

-- the repeaters so far have made the window, and their parcels are on the way to the segments
abbrev pub invariant-loop-i : goal.invariant-loop-i
invariant-loop-i g l = record {
  repeaters : AreBetween g.R.Part.plan g.R.Part.number g.R.Part.at l.plan (length l.plan.layout.segments) (length l.plan.layout.repeaters) l.window l.i l.repeaters;
  first : l.first ≡ edges_before l.plan.layout.repeaters l.i;
  parcels : l.parcels ≡ back_to l.plan l.window l.first;
}
