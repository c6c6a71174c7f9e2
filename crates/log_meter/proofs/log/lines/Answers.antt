use Rattle.std.proofs.Common.{◌≡◌, ◌++◌, ◌∷◌, [], ap, sym, ◌∙◌, arith, length-append}
use Rattle.log_meter.specs.Entries.{line_of}
use Rattle.log_meter.specs.Logs.{log_text}
use Rattle.log_meter.proofs.LinesApart.{grammar_snoc, last_snoc, order_snoc, text_snoc}
use Rattle.log_meter.proofs.log.lines.Goals as goal

pub loop-rest-preserved : goal.loop-rest-preserved
loop-rest-preserved c =
    let ls = c.loop-rest.lines in
    let line = line_of c.in-Some.entry in
    let so_far = c.loop-rest.invariant in
    let pushed : c.push.new.self ≡ ls ++ line ∷ [] = c.in_ok-push.ensures.ok ∙ ap (λ z. ls ++ z ∷ []) c.in_ok-kept.ensures in
    rw pushed (record {
      text = so_far.text ∙ ap (λ xs. log_text ls ++ xs) c.in-Some.ensures.text ∙ sym (text_snoc ls line c.in-Some.after.now);
      grammar = grammar_snoc ls line so_far.grammar c.in-Some.ensures.grammar;
      order = order_snoc 0 ls line so_far.order (omega (arith, so_far.last));
      last = sym (last_snoc 0 ls line);
      number = omega (arith, so_far.number, length-append ls (line ∷ []));
      room = omega (arith, so_far.room, c.in-Some.ensures.shorter);
    })
