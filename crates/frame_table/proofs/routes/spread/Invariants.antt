use Rattle.std.proofs.Common.{◌≡◌, ℕ, All, length, take}
use Rattle.layout.specs.Among.{IsAmong}
use Rattle.layout.specs.declared.ways.Attachment.{Attachment}
use Rattle.layout.specs.declared.ways.Way.TheVariants as way
use Rattle.path_checker.specs.declared.stops.Stop.{Stop}
use Rattle.frame_table.specs.Led.{AreLed, HasCome, IsSearched, IsFound, IsLed, StandsThere}
use Rattle.frame_table.proofs.routes.spread.Given as goal

abbrev pub invariant-loop-stop : goal.invariant-loop-stop
invariant-loop-stop l = record {
  routes : (a : ℕ) → IsLed l.layout a way.Cable l.head → AreLed l.layout a l.fn.routes → AreLed l.layout a l.routes;
  next : (a : ℕ) → IsLed l.layout a way.Cable l.head → All (IsLed l.layout a way.Cable) l.fn.next.items → All (IsLed l.layout a way.Cable) l.next.items;
  stand : All (StandsThere l.layout) l.fn.next.items → All (StandsThere l.layout) l.next.items;
  kept : (b : ℕ) → IsFound l.fn.routes b → IsFound l.routes b;
  come : (q : Attachment) → HasCome l.fn.next.items q → HasCome l.next.items q;
  done : (x : Stop) → IsAmong x (take l.stop-index l.near) → (x.tap ≡ l.head.stop.tap → ⊥) → IsSearched l.layout (length l.fn.routes) l.routes l.next.items x.tap;
}
