use Rattle.std.proofs.Common.{◌≡◌, ◌<◌, ◌++◌, ◌∷◌, [], length, get_or, ap, ◌∙◌, subst, arith}
use Rattle.std.proofs.lemmas.List.{get_or_read, length_push}
use Rattle.frame_table.specs.Receptions.{AreReceptions}
use Rattle.frame_table.specs.Told.{items_of}
use Rattle.frame_table.proofs.ToldSteps.{each_got}
use Rattle.frame_table.proofs.told.all_receptions.Goals as goal

pub loop-k-init : goal.loop-k-init
loop-k-init c = record {
  count = ap length c.new-receptions.ensures.items;
  each = λ k lt. absurd (omega arith);
}

pub loop-k-preserved : goal.loop-k-preserved
loop-k-preserved c =
    let events = c.args.events.now in
    let n = c.loop-k.k in
    let old = c.loop-k.receptions.items in
    let more = c.in_ok-sorted_receptions.field-0 in
    let pushed : c.push.new.self.items ≡ old ++ more ∷ [] = c.in_ok-push.ensures.items in
    let low : n < length events = omega (arith, c.requires, c.loop-k-test.true) in
    let same : c.as_slice.result.now ≡ get_or events n [] = c.as_slice.ensures ∙ get_or_read events n c.index-events-k.result low c.index-events-k.is [] in
    record {
      count = omega (arith, ap length pushed, length_push old more, c.loop-k.invariant.count);
      each = each_got (λ q o. AreReceptions (get_or events q []) (items_of o)) old c.push.new.self.items more n c.loop-k.invariant.count pushed c.loop-k.invariant.each (subst (λ es. AreReceptions es more.items) same c.in_ok-sorted_receptions.ensures);
    }

pub returns-clause-each : goal.returns-clause-each
returns-clause-each c = λ k lt. c.loop-k.invariant.each k (omega arith)
