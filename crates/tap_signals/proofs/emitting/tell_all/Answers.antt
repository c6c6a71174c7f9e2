use Rattle.std.proofs.Common.{◌≡◌, ◌+◌, List, [], length-set, get_or, sym, ap, subst, ◌∙◌, arith}
use Rattle.std.proofs.lemmas.List.{get_or-set_other}
use Rattle.layout.specs.declared.ways.Attachment.TheVariants.{Station}
use Rattle.layout.specs.Paths.{delay_of}
use Rattle.tap_signals.specs.Kinds.{kind_emitted}
use Rattle.tap_signals.specs.Stretches.{AreStretchesTo}
use Rattle.tap_signals.specs.declared.stretch.Stretch.{Stretch}
use Rattle.tap_signals.proofs.ToldByNet.{delay_most, one_told, tap_told}
use Rattle.tap_signals.proofs.emitting.tell_all.Goals as goal

pub loop-k-init : goal.loop-k-init
loop-k-init c = record {
  many = c.requires.told.many;
  done = λ q d l. absurd (omega (arith, l));
  left = λ q d l m. c.requires.told.each q d m;
}

pub kind_of-kind-requires : goal.kind_of-kind-requires
kind_of-kind-requires c = c.requires.devices c.loop-k.k (Station 0) c.loop-k-test.true

pub delay_of-requires : goal.delay_of-requires
delay_of-requires c = c.requires.taps c.loop-k.k (Station 0) c.loop-k-test.true

pub overflow_add-emitted : goal.overflow_add-emitted
overflow_add-emitted c =
    let most = delay_most c.args.plan.now (get_or c.args.taps.now c.loop-k.k (Station 0)) (c.requires.taps c.loop-k.k (Station 0) c.loop-k-test.true) in
    omega (arith, most, c.delay_of.ensures, c.requires.time)

pub tell-requires : goal.tell-requires
tell-requires c =
    let most = delay_most c.args.plan.now (get_or c.args.taps.now c.loop-k.k (Station 0)) (c.requires.taps c.loop-k.k (Station 0) c.loop-k-test.true) in
    omega (arith, most, c.delay_of.ensures, c.requires.time)

pub loop-k-preserved : goal.loop-k-preserved
loop-k-preserved c =
    let k = c.loop-k.k in
    let lists : List (List Stretch) = c.loop-k.lists in
    let item = c.index-lists-k.result in
    let old : List Stretch = get_or lists k item in
    let is : old ≡ get_or lists k old = ap (λ (x : List Stretch). get_or lists k x) c.index-lists-k.is in
    let inv = c.loop-k.invariant in
    let test = c.loop-k-test.true in
    record {
      many = length-set lists k c.tell.new.stretches ∙ inv.many;
      done = one_told c.args.plan.now c.args.taps.now c.args.window.start c.args.window.end c.args.t k lists c.tell.new.stretches test inv.many inv.done
          (tap_told c.args.plan.now c.args.taps.now c.args.whole.now c.args.rested.now c.args.window.start c.args.window.end c.args.t k lists old c.tell.new.stretches _ _ test inv.many is
          c.delay_of.ensures c.kind_of-kind.ensures c.requires.kinds (inv.left k) c.in_ok-tell.ensures);
      left = λ q d l m.
          subst (AreStretchesTo (kind_emitted c.args.plan.now (get_or c.args.taps.now q d)) c.args.window.start c.args.window.end (c.args.t + delay_of c.args.plan.now.layout (get_or c.args.taps.now q d)))
          (sym (get_or-set_other lists k q c.tell.new.stretches [] (λ e. omega (arith, e, l)))) (inv.left q d (omega (arith, l)) m);
    }

pub returns : goal.returns
returns c = record {
  many = c.loop-k.invariant.many;
  each = λ k d l. c.loop-k.invariant.done k d (omega (arith, l, c.loop-k-test.false));
}
