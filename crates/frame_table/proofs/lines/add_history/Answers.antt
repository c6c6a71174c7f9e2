use Rattle.std.proofs.Common.{◌++◌, ◌∙◌, ap, codes, decimal}
use Rattle.std.proofs.lemmas.Result.{on_ok_weaker}
use Rattle.frame_table.specs.Tables.{end_text, history_text, number_text, outcome_field}
use Rattle.frame_table.proofs.TableSteps.{fields_joined}
use Rattle.frame_table.proofs.lines.add_history.Goals as goal

pub returns : goal.returns
unfolding history_text
returns c =
    let h = c.args.history.now in
    on_ok_weaker c.extend-2.result
    (λ six. fields_joined c.args.text.now (number_text h.first) (number_text h.start) (end_text h.end) (decimal h.attempts) (outcome_field h.end) (codes ",") c.add_field.new.text c.add_field-2.new.text c.add_end.new.text c.add_field-3.new.text c.extend.new.self c.extend-2.new.self
    c.in_ok-add_field.ensures c.in_ok-add_field-2.ensures c.in_ok-add_end.ensures c.in_ok-add_field-3.ensures
    (c.in_ok-extend.ensures.ok ∙ ap (λ xs. c.add_field-3.new.text ++ xs) c.outcome_field.ensures) six)
    c.extend-2.ensures.ok
