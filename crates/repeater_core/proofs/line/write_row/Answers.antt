use Rattle.std.proofs.Common.{◌≡◌, ◌+◌, ◌<◌, ◌++◌, [], ◌∷◌, cond, length, map, take, get_or, sym, ap, ◌∙◌, arith}
use Rattle.std.proofs.lemmas.Grind.{common_steps, take-set_at}
use Rattle.std.proofs.lemmas.List.{take_more}
use Rattle.manchester_line.specs.declared.Sym.TheVariants.{Idle}
use Rattle.manchester_line.specs.Line.{is_signal}
use Rattle.repeater_core.specs.Steady.{texted}
use Rattle.repeater_core.proofs.PutRow.{text_put, texted_length}
use Rattle.repeater_core.proofs.line.write_row.Goals as goal

pub loop-k-preserved : goal.loop-k-preserved
loop-k-preserved c =
    let k = c.loop-k.k in
    let new = c.loop-k.row in
    let flags = c.args.flags.now in
    let ds = texted (map is_signal flags) c.args.text in
    let i = c.loop-k.invariant in
    let long : length ds ≡ length flags = texted_length flags c.args.text in
    let l : k < length flags = omega arith in
    let value : c.text_where.result ≡ get_or ds k Idle =
    c.text_where.ensures ∙ ap (λ b. cond b c.args.text Idle) c.is_signal.ensures ∙ sym (text_put k flags c.args.text _ l) in
    let size = i.len in
    record {
      len = grind (arith, common_steps);
      written = take-set_at new k (k + 1) c.text_where.result (omega arith) (omega arith) ∙ ap (λ xs. xs ++ c.text_where.result ∷ []) i.written
          ∙ ap (λ v. take k ds ++ v ∷ []) value ∙ sym (take_more ds k Idle (omega arith));
    }
