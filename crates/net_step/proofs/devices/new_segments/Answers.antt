use Rattle.std.proofs.Common.{◌++◌, ◌∷◌, [], sym, ap₂, ◌∙◌, arith}
use Rattle.std.proofs.lemmas.List.FromFn.{map-range_with_len_more}
use Rattle.net_step.specs.Wires.{Wire, new_wire}
use Rattle.net_step.proofs.devices.new_segments.Goals as goal

pub loop-segment-preserved : goal.loop-segment-preserved
loop-segment-preserved c =
    let f = new_wire c.args.taps.now in
    let k = c.loop-segment.segment in
    c.in_ok-push.ensures.items
    ∙ ap₂ (λ xs (x : Wire). xs ++ x ∷ []) c.loop-segment.invariant c.in_ok-new.ensures
    ∙ sym (map-range_with_len_more f 0 k k (omega arith))
