use Rattle.std.proofs.Common.{◌≡◌, take}
use Rattle.repeater_engine.specs.KeptRepeaters.{row_brought}
use Rattle.repeater_engine.proofs.parcels.hear_all.Given as goal

-- the ports below p have heard
abbrev pub invariant-loop-p : goal.invariant-loop-p
invariant-loop-p l = take l.p l.heard ≡ row_brought l.k (take l.p l.parcels)
