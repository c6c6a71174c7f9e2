use Rattle.std.proofs.Common.{◌++◌, ap, ap₂, ◌∙◌, arith}
use Rattle.network.specs.declared.outputs.Outputs.{Outputs}
use Rattle.net_parts.specs.OutputsOfParts.{cut_rows_on}
use Rattle.segment_engine.proofs.part.hand_out.Goals as goal
use Rattle.segment_engine.proofs.part.hand_out.Goals.{then-window-of+in_ok-log_cut, else-window-of}

pub returns-clause-so_far : goal.returns-clause-so_far
returns-clause-so_far c = λ before.
    let base = c.into_outputs-outputs.ensures.rows ∙ c.settle.ensures.same.same_rows in
    elim c.if-window-of.branch [
      | then-window-of+in_ok-log_cut w ↦ let same = w.if-window-of.true in absurd (omega (arith, same, before))
      | else-window-of w ↦ ap (λ (o : Outputs). o.rows) w.outputs-is ∙ base
    ]

pub returns-clause-rows : goal.returns-clause-rows
returns-clause-rows c = λ last.
    let base = c.into_outputs-outputs.ensures.rows ∙ c.settle.ensures.same.same_rows in
    elim c.if-window-of.branch [
      | then-window-of+in_ok-log_cut w ↦
          ap (λ (o : Outputs). o.rows) w.outputs-is ∙ w.in_ok-log_cut.ensures
          ∙ ap₂ (λ xs ks. xs ++ cut_rows_on c.args.t ks c.args.senders.now) base w.deref.ensures.value
      | else-window-of w ↦ let other = w.if-window-of.false in absurd (omega (arith, other, last))
    ]

pub returns-clause-captures : goal.returns-clause-captures
returns-clause-captures c =
    let base = c.into_outputs-outputs.ensures.captures ∙ c.settle.ensures.same.same_captures in
    elim c.if-window-of.branch [
      | then-window-of+in_ok-log_cut w ↦ ap (λ (o : Outputs). o.captures) w.outputs-is ∙ base
      | else-window-of w ↦ ap (λ (o : Outputs). o.captures) w.outputs-is ∙ base
    ]
