use Rattle.std.proofs.Common.{ℕ, All, length, take}
use Rattle.layout.specs.Among.{IsAmong}
use Rattle.layout.specs.Paths.{IsStep}
use Rattle.layout.specs.declared.ways.Attachment.{Attachment}
use Rattle.layout.specs.declared.ways.Way.TheVariants as way
use Rattle.frame_table.specs.Led.{AreLed, IsSearched, IsFound, IsLed, StandsThere}
use Rattle.frame_table.specs.declared.routes.Led.{Led}
use Rattle.frame_table.proofs.routes.spread_all.Given as goal

abbrev pub invariant-loop-head : goal.invariant-loop-head
invariant-loop-head l = record {
  routes : (a : ℕ) → All (IsLed l.layout a way.Cable) l.heads → AreLed l.layout a l.fn.routes → AreLed l.layout a l.routes;
  next : (a : ℕ) → All (IsLed l.layout a way.Cable) l.heads → All (IsLed l.layout a way.Cable) l.next.items;
  stand : All (StandsThere l.layout) l.next.items;
  kept : (b : ℕ) → IsFound l.fn.routes b → IsFound l.routes b;
  done : (h : Led) (p : Attachment) → IsAmong h (take l.head-index l.heads) → IsStep l.layout way.Cable h.stop.tap p → IsSearched l.layout (length l.fn.routes) l.routes l.next.items p;
}
