use Rattle.std.proofs.Common.{◌≡◌, ◌≤◌, ◌+◌, length, refl, sym, ap, subst, ◌∙◌, arith, rules}
use Rattle.std.proofs.lemmas.List.{with_items_is}
use Rattle.load_plan.proofs.PlansAreSound.{sound_of_plan}
use Rattle.network.specs.Net.{net}
use Rattle.net_step.proofs.GoingOn.{at_time}
use Rattle.tap_signals.specs.Told.{AreListsTold}
use Rattle.tap_signals.proofs.ToldByNet.{stands_later, stands_still, told_first, told_silent}
use Rattle.tap_signals.proofs.emitting.told_from.Goals as goal

pub go_to-requires-clause-short : goal.go_to-requires-clause-short
go_to-requires-clause-short c = omega (arith, c.requires.begin, c.requires.order, c.requires.end, (sound_of_plan c.args.plan.now).bits_most)

pub window-init : goal.window-init
window-init c = record {
  within = omega (arith, c.requires.begin, c.requires.order);
  time = c.in_ok-go_to.ensures.time;
  stands = at_time c.args.plan.now _ c.args.begin _ c.args.begin c.in_ok-whole.ensures.time refl (c.in_ok-go_to.ensures.stands (net c.args.plan.now 0) c.in_ok-whole.ensures.stands);
  rests = search rules;
  told = told_first c.args.plan.now c.args.taps.now c.args.window.start c.args.window.end c.args.begin c.in_ok-lists.lists.items c.requires.taps c.requires.begin c.in_ok-lists.ensures.many c.in_ok-lists.ensures.none;
}

pub pass_silence-later-requires-clause-short : goal.pass_silence-later-requires-clause-short
pass_silence-later-requires-clause-short c = omega (arith, c.requires.end, (sound_of_plan c.args.plan.now).bits_most)

pub window-preserved-then-later-t : goal.window-preserved-then-later-t
window-preserved-then-later-t c =
    let plan = c.args.plan.now in
    let inv = c.window.invariant in
    let silence = c.pass_silence-later.ensures in
    let further : c.window.t ≤ c.pass_silence-later.result = omega (arith, c.if-later-t.true) in
    record {
      within = silence.within;
      time = silence.time;
      stands = stands_later plan c.pass_silence-later.new.self c.window.t c.pass_silence-later.result c.window.whole.t inv.time further (silence.stands (net plan c.window.t) inv.stands);
      rests = inv.rests;
      told = told_silent plan c.args.taps.now c.args.window.start c.args.window.end c.window.t c.pass_silence-later.result c.window.whole.t c.window.lists.items inv.time further c.requires.taps
          (silence.silent (net plan c.window.t) inv.stands) inv.told;
    }

pub tell_step-requires-clause-in_time : goal.tell_step-requires-clause-in_time
tell_step-requires-clause-in_time c = omega (arith, c.window-test.true, c.requires.end, (sound_of_plan c.args.plan.now).bits_most)

pub tell_step-requires-clause-stands : goal.tell_step-requires-clause-stands
tell_step-requires-clause-stands c =
    let plan = c.args.plan.now in
    let inv = c.window.invariant in
    let silence = c.pass_silence-later.ensures in
    stands_still plan c.pass_silence-later.new.self c.window.t c.pass_silence-later.result c.window.whole.t inv.time
    (omega (arith, silence.later, inv.time)) c.if-later-t.false (silence.stands (net plan c.window.t) inv.stands)

pub tell_step-requires-clause-told : goal.tell_step-requires-clause-told
tell_step-requires-clause-told c =
    subst (AreListsTold c.args.plan.now c.args.taps.now c.args.window.start c.args.window.end c.window.t) (sym c.deref_mut-in-window.ensures.value) c.window.invariant.told

pub window-preserved : goal.window-preserved
window-preserved c =
    let lists = with_items_is c.window.lists c.tell_step.new.lists (search rules) in
    let rests = with_items_is c.window.rests c.tell_step.new.rests (search rules) in
    record {
      within = omega (arith, c.window-test.true);
      time = c.in_ok-tell_step.ensures.time;
      stands = c.in_ok-tell_step.ensures.stands;
      rests = ap length rests ∙ c.tell_step.auto.rests ∙ ap length c.deref_mut.ensures.value ∙ c.window.invariant.rests;
      told = subst (AreListsTold c.args.plan.now c.args.taps.now c.args.window.start c.args.window.end (c.window.t + 1)) (sym lists) c.in_ok-tell_step.ensures.told;
    }

pub returns : goal.returns
returns c =
    let end : c.window.t ≡ c.args.window.end = omega (arith, c.window-test.false, c.window.invariant.within) in
    subst (λ u. AreListsTold c.args.plan.now c.args.taps.now c.args.window.start c.args.window.end u c.window.lists.items) end c.window.invariant.told
