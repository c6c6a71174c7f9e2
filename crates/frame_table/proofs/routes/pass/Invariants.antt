use Rattle.std.proofs.Common.{◌≡◌, ℕ, All, take}
use Rattle.layout.specs.Among.{IsAmong}
use Rattle.layout.specs.declared.ways.Attachment.{Attachment}
use Rattle.layout.specs.declared.ways.Way.TheVariants as way
use Rattle.path_checker.specs.declared.stops.Stop.{Stop}
use Rattle.frame_table.specs.Led.{HasCome, IsLed, StandsThere}
use Rattle.frame_table.proofs.routes.pass.Given as goal

abbrev pub invariant-loop-stop : goal.invariant-loop-stop
invariant-loop-stop l = record {
  led : (a : ℕ) → IsLed l.layout a way.Repeater l.led → All (IsLed l.layout a way.Cable) l.fn.next.items → All (IsLed l.layout a way.Cable) l.next.items;
  stand : All (StandsThere l.layout) l.fn.next.items → All (StandsThere l.layout) l.next.items;
  kept : (q : Attachment) → HasCome l.fn.next.items q → HasCome l.next.items q;
  come : (x : Stop) → IsAmong x (take l.stop-index l.near) → (x.tap ≡ l.led.stop.tap → ⊥) → HasCome l.next.items x.tap;
}
