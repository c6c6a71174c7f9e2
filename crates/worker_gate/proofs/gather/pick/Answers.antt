use Rattle.std.proofs.Common.{ap, sym, ◌∙◌, arith, length}
use Rattle.worker_gate.proofs.GatheredParts.{none_left, none_more, same_number, short_at, taken_out}
use Rattle.worker_gate.proofs.gather.pick.Goals.{else-part-number-2-via-then-part-number-2+else-window-windows, else-part-number-2-via-else-part-number-2}
use Rattle.worker_gate.proofs.gather.pick.Goals as goal

pub returns-then-window-windows-clause-left : goal.returns-then-window-windows-clause-left
returns-then-window-windows-clause-left g c =
    taken_out g.S.Part.plan g.S.Part.number g.S.Part.at (λ own. own.part) c.loop-i.owns.items c.args.owns.now.items c.loop-i.invariant.1 c.loop-i.i c.args.number c.swap_remove-part.result (let below = c.loop-i-test.true in let many = c.len-i-end.ensures in let same = ap length c.loop-i.invariant.1 in omega (arith, below, many, same)) c.swap_remove-part.ensures.value
    c.swap_remove-part.new.self.items c.swap_remove-part.ensures.items

pub returns-then-part-number-clause-none : goal.returns-then-part-number-clause-none
returns-then-part-number-clause-none g c all = elim c.else-part-number-2.branch [
  | else-part-number-2-via-then-part-number-2+else-window-windows w ↦
      short_at g.S.Part.plan g.S.Part.number g.S.Part.at (λ own. own.part) c.loop-i.owns.items c.args.owns.now.items c.loop-i.invariant.1 c.loop-i.i c.args.number c.swap_remove-part.result (let below = c.loop-i-test.true in let many = c.len-i-end.ensures in let same = ap length c.loop-i.invariant.1 in omega (arith, below, many, same)) c.swap_remove-part.ensures.value
      (sym c.part-then-part-number.ensures ∙ w.if-part-number-2.true) (λ e. w.if-window-windows.false (w.window.ensures ∙ e ∙ sym w.windows.ensures)) all
  | else-part-number-2-via-else-part-number-2 w ↦
      w.if-part-number-2.false (c.part-then-part-number.ensures ∙ same_number g.S.Part.plan g.S.Part.number g.S.Part.at (λ own. own.part) c.loop-i.owns.items c.args.owns.now.items c.loop-i.invariant.1 c.loop-i.i c.args.number c.swap_remove-part.result (let below = c.loop-i-test.true in let many = c.len-i-end.ensures in let same = ap length c.loop-i.invariant.1 in omega (arith, below, many, same)) c.swap_remove-part.ensures.value
      c.index.result.now c.index.ensures (sym c.part.ensures ∙ c.if-part-number.true))
]

pub loop-i-preserved : goal.loop-i-preserved
loop-i-preserved g c = (
  none_more g.S.Part.plan g.S.Part.number g.S.Part.at (λ own. own.part) c.loop-i.owns.items c.args.owns.now.items c.loop-i.invariant.1 c.loop-i.i c.args.number c.index.result.now (let below = c.loop-i-test.true in let many = c.len-i-end.ensures in let same = ap length c.loop-i.invariant.1 in omega (arith, below, many, same)) c.index.ensures
      c.loop-i.invariant.0 (λ e. c.if-part-number.false (c.part.ensures ∙ e)),
  c.loop-i.invariant.1,
)

pub returns-clause-none : goal.returns-clause-none
returns-clause-none g c =
    none_left g.S.Part.plan g.S.Part.number g.S.Part.at (λ own. own.part) c.loop-i.owns.items c.args.owns.now.items c.loop-i.invariant.1 c.loop-i.i c.args.number
    (let past = c.loop-i-test.false in let many = c.len-i-end.ensures in let same = ap length c.loop-i.invariant.1 in omega (arith, past, many, same)) c.loop-i.invariant.0
