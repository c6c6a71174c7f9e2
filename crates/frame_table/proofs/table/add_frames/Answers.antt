use Rattle.std.proofs.Common.{◌≡◌, length, ap, ◌∙◌, sym, arith}
use Rattle.std.proofs.lemmas.Option.{same_Some}
use Rattle.frame_table.proofs.TableSteps.{frames_more, frames_end, got_at}
use Rattle.frame_table.proofs.table.add_frames.Goals as goal

pub loop-n-preserved : goal.loop-n-preserved
loop-n-preserved c = λ lines paths s q known s_is q_is each.
    let n = c.loop-n.n in
    let long : c.len-count.result ≡ length q = c.len-count.ensures ∙ ap length (same_Some c.get.result.now q (sym c.get.ensures ∙ q_is)) in
    let got = got_at q n (omega (arith, c.loop-n-test.true, long)) in
    frames_more c.args.plan.now paths lines c.args.a s.name n q got.0 c.loop-n.text c.add_frame.new.text _ got.1
    (c.in_ok-add_frame.ensures lines paths s q got.0 known s_is q_is got.1 (each n _ (omega (arith, c.loop-n-test.true, long, c.requires.histories q q_is))))
    (c.loop-n.invariant lines paths s q known s_is q_is each)

pub returns : goal.returns
returns c = λ lines paths s q known s_is q_is each.
    let long : c.len-count.result ≡ length q = c.len-count.ensures ∙ ap length (same_Some c.get.result.now q (sym c.get.ensures ∙ q_is)) in
    frames_end c.args.plan.now paths lines c.args.a s.name c.loop-n.n q c.loop-n.text _ (omega (arith, c.loop-n-test.false, long)) (c.loop-n.invariant lines paths s q known s_is q_is each)
