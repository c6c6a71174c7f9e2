use Rattle.std.proofs.Common.{◌++◌, ◌∷◌, [], None, ap, subst, sym, ◌∙◌, arith, length-append}
use Rattle.std.specs.Prelude.{IfSome}
use Rattle.line_probe.specs.ReadBack.{BeginsAtEnd, HasOtherSymbol, IsToldRun}
use Rattle.line_probe.specs.RunTexts.{text_of_runs}
use Rattle.line_probe.proofs.TextsApart.{last_is_told, last_snoc, order_snoc, text_snoc, told_snoc}
use Rattle.line_probe.proofs.read_back.judged_runs.Goals as goal

pub fault_after-requires : goal.fault_after-requires
fault_after-requires c =
    subst (λ before. IfSome before IsToldRun) (sym c.loop-rest.invariant.last) (last_is_told None c.loop-rest.runs tt c.loop-rest.invariant.each)

pub loop-rest-preserved : goal.loop-rest-preserved
loop-rest-preserved c =
    let rs = c.loop-rest.runs in
    let run = c.in-Some.run' in
    let so_far = c.loop-rest.invariant in
    let follows = subst (λ before. BeginsAtEnd before run × HasOtherSymbol before run) so_far.last c.in_default-fault_after.ensures in
    rw c.in_ok-push.ensures.ok (record {
      text = so_far.text ∙ ap (λ xs. text_of_runs rs ++ xs) c.in-Some.ensures.text ∙ sym (text_snoc rs run c.in-Some.after.now);
      each = told_snoc rs run so_far.each c.in-Some.ensures.told;
      order = order_snoc None rs run so_far.order follows.0 follows.1;
      last = sym (last_snoc None rs run);
      number = omega (arith, so_far.number, length-append rs (run ∷ []));
      room = omega (arith, so_far.room, c.in-Some.ensures.shorter);
    })
