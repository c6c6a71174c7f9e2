use Rattle.std.proofs.Common.{rules, arith}
use Rattle.std.proofs.lemmas.List.{take_rest}
use Rattle.outside.specs.declared.store.SinkFail.{SinkFail}
use Rattle.run_forms.proofs.TextsByPieces.{said-next}
use Rattle.run_forms.proofs.sink_texts.write_text.Goals as goal

pub loop-done-preserved : goal.loop-done-preserved
loop-done-preserved g c = (
  search rules,
  said-next SinkFail c.args.text.now c.loop-done.done c.in_ok-count.count (g.K.Sink.written c.args.out.now) _ _ c.loop-done.invariant.1 (rw take_rest at c.in_ok-count.ensures.written),
  omega (arith, c.write.ensures.refused),
  omega (arith, c.write.ensures.faults),
)
