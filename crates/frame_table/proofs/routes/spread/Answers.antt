use Rattle.std.proofs.Common.{◌≡◌, ℕ, length, ap, subst, sym, ◌∙◌, get_or, arith}
use Rattle.layout.specs.Paths.{IsStep}
use Rattle.layout.specs.declared.ways.Attachment.{Attachment}
use Rattle.layout.specs.declared.ways.Attachment.TheVariants.{Station}
use Rattle.layout.specs.declared.ways.Way.TheVariants as way
use Rattle.path_checker.specs.declared.stops.Stop.{Stop}
use Rattle.path_checker.specs.Far.{IsStop}
use Rattle.path_checker.proofs.FarthestStation.{beside_at, next_step, same_tap_true}
use Rattle.frame_table.specs.Led.{IsSearched, IsFound, IsLed, gone_on}
use Rattle.frame_table.specs.declared.routes.Led.{Led}
use Rattle.frame_table.proofs.WaysFound.{done_on, done_port, done_station, each_beside, found_kept, found_new, one_taken, skip_taken}
use Rattle.frame_table.proofs.WaysOn.{led_on, found_more}
use Rattle.frame_table.proofs.routes.spread.Goals as goal

abbrev nowhere : Stop
nowhere = record { tap = Station 0; segment = 0; at = 0 }

pub loop-stop-init : goal.loop-stop-init
loop-stop-init c = record {
  routes = λ a led before. before;
  next = λ a led before. before;
  stand = λ before. before;
  kept = λ b h. h;
  come = λ q h. h;
  done = λ x among other. absurd among;
}

pub loop-stop-preserved-then-is_same_tap : goal.loop-stop-preserved-then-is_same_tap
loop-stop-preserved-then-is_same_tap c =
    let near = c.beside-near.result.now in
    let a = c.args.head.now.stop.tap in
    record {
      routes = c.loop-stop.invariant.routes;
      next = c.loop-stop.invariant.next;
      stand = c.loop-stop.invariant.stand;
      kept = c.loop-stop.invariant.kept;
      come = c.loop-stop.invariant.come;
      done =
          skip_taken (IsSearched c.args.layout.now (length c.args.routes.now) c.loop-stop.routes c.loop-stop.next.items) near c.loop-stop.stop-index nowhere a c.loop-stop-test.true
          (same_tap_true (get_or near c.loop-stop.stop-index nowhere).tap a c.is_same_tap.result c.is_same_tap.ensures c.if-is_same_tap.true) c.loop-stop.invariant.done;
    }

pub gone_on-requires-clause-to : goal.gone_on-requires-clause-to
gone_on-requires-clause-to c =
    (beside_at c.args.layout.now c.args.network.now way.Cable c.args.head.now.stop c.beside-near.result.now c.loop-stop.stop-index nowhere c.requires.sound c.requires.network c.requires.head c.beside-near.ensures c.loop-stop-test.true).stands

pub loop-stop-preserved-in-Station : goal.loop-stop-preserved-in-Station
loop-stop-preserved-in-Station c =
    let l = c.args.layout.now in
    let near = c.beside-near.result.now in
    let stop : Stop = get_or near c.loop-stop.stop-index nowhere in
    let stands : IsStop l stop = (beside_at l c.args.network.now way.Cable c.args.head.now.stop near c.loop-stop.stop-index nowhere c.requires.sound c.requires.network c.requires.head c.beside-near.ensures c.loop-stop-test.true).stands in
    let step : IsStep l way.Cable c.args.head.now.stop.tap stop.tap = next_step l c.args.network.now way.Cable c.args.head.now.stop near c.loop-stop.stop-index nowhere c.is_same_tap.result c.requires.sound c.requires.network c.requires.head c.beside-near.ensures c.loop-stop-test.true c.is_same_tap.ensures c.if-is_same_tap.false in
    let led_is : c.in_ok-led.led ≡ gone_on l way.Cable c.args.head.now stop = c.in_ok-led.ensures in
    let station = c.in-Station.station in
    let n = length c.args.routes.now in
    let kept : (b : ℕ) → IsFound c.loop-stop.routes b → IsFound c.put.new.routes b = λ b h. found_kept c.loop-stop.routes c.put.new.routes station b c.in_ok-led.led c.put.ensures h in
    record {
      routes = λ a led before.
          found_more l a c.in-Station.station c.loop-stop.routes c.put.new.routes c.in_ok-led.led (c.loop-stop.invariant.routes a led before)
          (record { to = ap (λ (x : Led). x.stop.tap) led_is ∙ c.in-Station.is; is = subst (IsLed l a way.Repeater) (sym led_is) (led_on l a way.Cable c.args.head.now stop led stands step) })
          c.put.ensures;
      next = c.loop-stop.invariant.next;
      stand = c.loop-stop.invariant.stand;
      kept = λ b h. kept b (c.loop-stop.invariant.kept b h);
      come = c.loop-stop.invariant.come;
      done =
          one_taken (IsSearched l n c.put.new.routes c.loop-stop.next.items) near c.loop-stop.stop-index nowhere c.args.head.now.stop.tap c.loop-stop-test.true
          (done_station l n c.put.new.routes c.loop-stop.next.items stop.tap station c.in-Station.is (λ low. found_new c.loop-stop.routes c.put.new.routes station c.in_ok-led.led c.put.ensures (omega (arith, low, c.loop-stop.auto.routes))))
          (λ x among other. done_on l n c.loop-stop.routes c.put.new.routes c.loop-stop.next.items c.loop-stop.next.items x.tap kept (λ q h. h) (c.loop-stop.invariant.done x among other));
    }

pub pass-requires-clause-led : goal.pass-requires-clause-led
pass-requires-clause-led c =
    let l = c.args.layout.now in
    let near = c.beside-near.result.now in
    let stop : Stop = get_or near c.loop-stop.stop-index nowhere in
    let stands : IsStop l stop = (beside_at l c.args.network.now way.Cable c.args.head.now.stop near c.loop-stop.stop-index nowhere c.requires.sound c.requires.network c.requires.head c.beside-near.ensures c.loop-stop-test.true).stands in
    let led_is : c.in_ok-led.led ≡ gone_on l way.Cable c.args.head.now stop = c.in_ok-led.ensures in
    subst (λ (x : Led). IsStop l x.stop) (sym led_is) stands

pub loop-stop-preserved : goal.loop-stop-preserved
loop-stop-preserved c =
    let l = c.args.layout.now in
    let near = c.beside-near.result.now in
    let stop : Stop = get_or near c.loop-stop.stop-index nowhere in
    let stands : IsStop l stop = (beside_at l c.args.network.now way.Cable c.args.head.now.stop near c.loop-stop.stop-index nowhere c.requires.sound c.requires.network c.requires.head c.beside-near.ensures c.loop-stop-test.true).stands in
    let step : IsStep l way.Cable c.args.head.now.stop.tap stop.tap = next_step l c.args.network.now way.Cable c.args.head.now.stop near c.loop-stop.stop-index nowhere c.is_same_tap.result c.requires.sound c.requires.network c.requires.head c.beside-near.ensures c.loop-stop-test.true c.is_same_tap.ensures c.if-is_same_tap.false in
    let led_is : c.in_ok-led.led ≡ gone_on l way.Cable c.args.head.now stop = c.in_ok-led.ensures in
    let n = length c.args.routes.now in
    let next = c.pass.new.next.items in
    record {
      routes = c.loop-stop.invariant.routes;
      next = λ a led before. c.in_ok-pass.ensures.led a (subst (IsLed l a way.Repeater) (sym led_is) (led_on l a way.Cable c.args.head.now stop led stands step)) (c.loop-stop.invariant.next a led before);
      stand = λ before. c.in_ok-pass.ensures.stand (c.loop-stop.invariant.stand before);
      kept = c.loop-stop.invariant.kept;
      come = λ q h. c.in_ok-pass.ensures.kept q (c.loop-stop.invariant.come q h);
      done =
          one_taken (IsSearched l n c.loop-stop.routes next) near c.loop-stop.stop-index nowhere c.args.head.now.stop.tap c.loop-stop-test.true
          (done_port l n c.loop-stop.routes next stop.tap c.in_default.field-0 c.in_default.field-1 c.in_default.is (λ q on. c.in_ok-pass.ensures.come q (subst (λ (t : Attachment). IsStep l way.Repeater t q) (sym (ap (λ (x : Led). x.stop.tap) led_is)) on)))
          (λ x among other. done_on l n c.loop-stop.routes c.loop-stop.routes c.loop-stop.next.items next x.tap (λ b h. h) (λ q h. c.in_ok-pass.ensures.kept q h) (c.loop-stop.invariant.done x among other));
    }

pub returns-clause-done : goal.returns-clause-done
returns-clause-done c =
    each_beside (IsSearched c.args.layout.now (length c.args.routes.now) c.loop-stop.routes c.loop-stop.next.items) c.args.layout.now c.args.network.now way.Cable c.args.head.now.stop c.beside-near.result.now c.loop-stop.stop-index
    c.requires.sound c.requires.network c.requires.head c.beside-near.ensures c.loop-stop-test.false c.loop-stop.invariant.done
