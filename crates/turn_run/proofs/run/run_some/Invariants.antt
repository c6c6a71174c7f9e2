use Rattle.std.proofs.Common.{◌≡◌, false, length}
use Rattle.turn_run.specs.PartsInTurn.{AreAtWindow}
use Rattle.turn_run.specs.ParcelsInTurn.{all_parcels}
use Rattle.turn_run.proofs.run.run_some.Given as goal

-- all parts have made the windows so far, and all parcels are on the way to the segments
abbrev pub invariant-loop-window : goal.invariant-loop-window
invariant-loop-window g l = record {
  segments : AreAtWindow g.S.Part.plan g.S.Part.number g.S.Part.at l.plan 0 (length l.plan.layout.segments) l.window l.segments;
  repeaters : AreAtWindow g.R.Part.plan g.R.Part.number g.R.Part.at l.plan (length l.plan.layout.segments) (length l.plan.layout.repeaters) l.window l.repeaters;
  parcels : l.parcels ≡ all_parcels l.plan false l.window;
  hand : length l.hand ≡ length l.parcels;
}
