use Rattle.std.proofs.Common.{◌∙◌, ap, arith, length, sym}
use Rattle.std.proofs.lemmas.List.{length-map}
use Rattle.std.specs.Arc.{arc_value}
use Rattle.std.proofs.Math.Seq.{map-set_same}
use Rattle.worker_gate.proofs.SameBoxes.{one_more_end}
use Rattle.worker_gate.proofs.endpoint.endpoints_to.Goals as goal

pub loop-fresh-preserved : goal.loop-fresh-preserved
loop-fresh-preserved g c =
    let boxes = c.loop-fresh.fresh-items in
    let i = c.loop-fresh.fresh-index in
    let first = c.args.boxes.now.items in
    let used = c.fresh-item.result in
    let test = c.loop-fresh-test.true in
    let same = sym (length-map boxes (λ p. arc_value p.mailbox)) ∙ ap length c.loop-fresh.invariant.kept ∙ length-map first (λ p. arc_value p.mailbox) in
    record {
      boxes = one_more_end (λ p. arc_value p.mailbox) (λ p. arc_value p.mailbox) c.loop-fresh.ends.items c.push.new.self.items boxes first i c.in_ok-endpoint.field-0 used
          (omega (arith, test, same)) c.loop-fresh.invariant.boxes c.loop-fresh.invariant.kept c.in_ok-endpoint.ensures.mailbox c.in_ok-push.ensures.items;
      lists = grind arith;
      kept = map-set_same (λ p. arc_value p.mailbox) boxes i c.endpoint.new.self used c.endpoint.ensures.kept ∙ c.loop-fresh.invariant.kept;
    }
