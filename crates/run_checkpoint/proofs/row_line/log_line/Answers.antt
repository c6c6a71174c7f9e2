use Rattle.std.proofs.Common.{◌∷◌, [], None, Some, Err, ap, sym, ◌∙◌}
use Rattle.std.proofs.lemmas.Bool.Decides.{Decides-eqb}
use Rattle.std.proofs.lemmas.Result.{IfOk-weaker}
use Rattle.std.proofs.lemmas.Slice.Eq.{strip_suffix_is}
use Rattle.run_checkpoint.proofs.LogLines.{bad_form, log_line_read, no_feed_form}
use Rattle.run_checkpoint.proofs.row_line.log_line.Goals as goal

pub returns-in_default : goal.returns-in_default
returns-in_default c = sym (no_feed_form c.args.line.now (strip_suffix_is Decides-eqb c.args.line.now (10 ∷ []) None c.in_default.ensures.cases))

pub returns-in-Ok : goal.returns-in-Ok
returns-in-Ok c =
    let feed = strip_suffix_is Decides-eqb c.args.line.now (10 ∷ []) (Some c.in-Some.front) c.in-Some.ensures.cases in
    sym (log_line_read c.args.line.now c.in-Ok.l c.in-Ok.ensures.line.0 (feed ∙ sym c.in-Ok.ensures.line.1))

pub returns-in-Err : goal.returns-in-Err
returns-in-Err c =
    let feed = strip_suffix_is Decides-eqb c.args.line.now (10 ∷ []) (Some c.in-Some.front) c.in-Some.ensures.cases in
    IfOk-weaker c.no_line.result _ _ (λ l h. h.0 ∙ sym (bad_form c.args.line.now c.in-Some.front.now feed (c.in-Err.ensures.bad.0 (ap Err h.1)))) c.no_line.ensures
