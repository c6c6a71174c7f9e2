use Rattle.std.proofs.Common.{◌≢◌, ◌⊎◌, ◌<◌, ℕ, List, All, length}
use Rattle.layout.specs.Paths.{IsWalk}
use Rattle.layout.specs.declared.ways.Attachment.{Attachment}
use Rattle.layout.specs.declared.ways.Attachment.TheVariants.{Station}
use Rattle.layout.specs.declared.ways.Way.TheVariants as way
use Rattle.frame_table.specs.Led.{AreLed, IsFound, IsLed, StandsThere}
use Rattle.frame_table.proofs.WaysFound.{IsLeft}
use Rattle.frame_table.proofs.routes.spread_on.Given as goal

abbrev pub invariant-loop-turn : goal.invariant-loop-turn
invariant-loop-turn l = record {
  routes : (a : ℕ) → IsLed l.layout a way.Cable l.fn.first → AreLed l.layout a l.fn.routes → AreLed l.layout a l.routes;
  heads : (a : ℕ) → IsLed l.layout a way.Cable l.fn.first → All (IsLed l.layout a way.Cable) l.heads.items;
  stand : All (StandsThere l.layout) l.heads.items;
  left : (b : ℕ) (taps : List Attachment) → b < length l.fn.routes → IsWalk l.layout way.Cable l.fn.first.stop.tap taps (Station b) → l.fn.first.stop.tap ≢ Station b → IsFound l.routes b ⊎ IsLeft l.layout l.heads.items b l._turn (length taps);
}
