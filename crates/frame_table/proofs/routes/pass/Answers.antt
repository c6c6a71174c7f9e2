use Rattle.std.proofs.Common.{◌≡◌, ◌++◌, ◌∷◌, [], All, ap, refl, subst, sym, ◌∙◌, get_or}
use Rattle.std.proofs.lemmas.List.Elements.{All-append, All-cons, All-nil}
use Rattle.layout.specs.Paths.{IsStep}
use Rattle.layout.specs.declared.ways.Attachment.TheVariants.{Station}
use Rattle.layout.specs.declared.ways.Way.TheVariants as way
use Rattle.path_checker.specs.declared.stops.Stop.{Stop}
use Rattle.path_checker.specs.Far.{IsStop}
use Rattle.path_checker.proofs.FarthestStation.{beside_at, next_step, same_tap_true}
use Rattle.frame_table.specs.Led.{HasCome, IsLed, StandsThere, gone_on}
use Rattle.frame_table.specs.declared.routes.Led.{Led}
use Rattle.frame_table.proofs.WaysFound.{come_end, come_more, each_beside, one_taken, skip_taken}
use Rattle.frame_table.proofs.WaysOn.{led_on}
use Rattle.frame_table.proofs.routes.pass.Goals as goal

abbrev nowhere : Stop
nowhere = record { tap = Station 0; segment = 0; at = 0 }

pub loop-stop-init : goal.loop-stop-init
loop-stop-init c = record {
  led = λ a led before. before;
  stand = λ before. before;
  kept = λ q h. h;
  come = λ x among other. absurd among;
}

pub loop-stop-preserved-then-is_same_tap : goal.loop-stop-preserved-then-is_same_tap
loop-stop-preserved-then-is_same_tap c =
    let near = c.beside-near.result.now in
    let a = c.args.led.now.stop.tap in
    record {
      led = c.loop-stop.invariant.led;
      stand = c.loop-stop.invariant.stand;
      kept = c.loop-stop.invariant.kept;
      come =
          skip_taken (HasCome c.loop-stop.next.items) near c.loop-stop.stop-index nowhere a c.loop-stop-test.true
          (same_tap_true (get_or near c.loop-stop.stop-index nowhere).tap a c.is_same_tap.result c.is_same_tap.ensures c.if-is_same_tap.true) c.loop-stop.invariant.come;
    }

pub gone_on-requires-clause-to : goal.gone_on-requires-clause-to
gone_on-requires-clause-to c =
    (beside_at c.args.layout.now c.args.network.now way.Repeater c.args.led.now.stop c.beside-near.result.now c.loop-stop.stop-index nowhere c.requires.sound c.requires.network c.requires.led c.beside-near.ensures c.loop-stop-test.true).stands

pub loop-stop-preserved : goal.loop-stop-preserved
loop-stop-preserved c =
    let l = c.args.layout.now in
    let near = c.beside-near.result.now in
    let stop : Stop = get_or near c.loop-stop.stop-index nowhere in
    let old = c.loop-stop.next.items in
    let new : Led = gone_on l way.Repeater c.args.led.now stop in
    let stands : IsStop l stop = (beside_at l c.args.network.now way.Repeater c.args.led.now.stop near c.loop-stop.stop-index nowhere c.requires.sound c.requires.network c.requires.led c.beside-near.ensures c.loop-stop-test.true).stands in
    let step : IsStep l way.Repeater c.args.led.now.stop.tap stop.tap = next_step l c.args.network.now way.Repeater c.args.led.now.stop near c.loop-stop.stop-index nowhere c.is_same_tap.result c.requires.sound c.requires.network c.requires.led c.beside-near.ensures c.loop-stop-test.true c.is_same_tap.ensures c.if-is_same_tap.false in
    let pushed : c.push.new.self.items ≡ old ++ new ∷ [] = c.in_ok-push.ensures.items ∙ ap (λ z. old ++ z ∷ []) c.in_ok-gone_on.ensures in
    record {
      led = λ a led before.
          subst (λ xs. All (IsLed l a way.Cable) xs) (sym pushed)
          (All-append (IsLed l a way.Cable) old (new ∷ []) (c.loop-stop.invariant.led a led before) (All-cons (IsLed l a way.Cable) new [] (led_on l a way.Repeater c.args.led.now stop led stands step) (All-nil (IsLed l a way.Cable))));
      stand = λ before.
          subst (λ xs. All (StandsThere l) xs) (sym pushed)
          (All-append (StandsThere l) old (new ∷ []) (c.loop-stop.invariant.stand before) (All-cons (StandsThere l) new [] stands (All-nil (StandsThere l))));
      kept = λ q h. come_more old c.push.new.self.items new q pushed (c.loop-stop.invariant.kept q h);
      come =
          one_taken (HasCome c.push.new.self.items) near c.loop-stop.stop-index nowhere c.args.led.now.stop.tap c.loop-stop-test.true (come_end old c.push.new.self.items new stop.tap pushed refl)
          (λ x among other. come_more old c.push.new.self.items new x.tap pushed (c.loop-stop.invariant.come x among other));
    }

pub returns-clause-come : goal.returns-clause-come
returns-clause-come c =
    each_beside (HasCome c.loop-stop.next.items) c.args.layout.now c.args.network.now way.Repeater c.args.led.now.stop c.beside-near.result.now c.loop-stop.stop-index
    c.requires.sound c.requires.network c.requires.led c.beside-near.ensures c.loop-stop-test.false c.loop-stop.invariant.come
