use Rattle.std.proofs.Common.{◌++◌, replicate, drop, ap, ◌∙◌, sym, arith, take}
use Rattle.manchester_line.specs.declared.Sym.TheVariants.{Idle}
use Rattle.cable_segment.proofs.Window.{take-append-take}
use Rattle.cable_segment.proofs.rows.slide.Goals as goal

pub returns-clause-rows : goal.returns-clause-rows
returns-clause-rows c =
    let front = replicate c.args.taps Idle in
    ap (take c.args.span) c.clear_before.ensures.rows
    ∙ sym (take-append-take c.args.span c.args.span front (drop c.make_room-at.result c.make_room-at.new.slots) (omega arith))
    ∙ ap (λ xs. take c.args.span (front ++ xs)) c.make_room-at.ensures.same
