use Rattle.std.proofs.Common.{◌+◌, ◌++◌, ◌∷◌, [], length, get_or, sym, ap, ap₂, ◌∙◌, arith}
use Rattle.net_parts.specs.Machines.{span}
use Rattle.net_parts.proofs.EdgeNumbers.{span_more, edges_in_it}
use Rattle.net_parts.proofs.edges.edges_at_repeater.Goals as goal

pub loop-p-preserved : goal.loop-p-preserved
loop-p-preserved c =
    let first = c.edges_before-first.result in
    c.in_ok-push.ensures.ok ∙ ap (λ es. es ++ (first + c.loop-p.p) ∷ []) c.loop-p.invariant ∙ sym (span_more first c.loop-p.p)

pub returns : goal.returns
returns c =
    let l = c.args.layout.now in
    let i = c.args.repeater in
    let d = c.index-as_slice-repeater.result in
    let many = edges_in_it l.repeaters i d c.requires.within in
    let size = ap (λ xs. length (get_or xs i d).ports) c.as_slice.ensures in
    let count = c.len-ports.ensures in
    let end = c.loop-p.auto.p-end in
    let all = c.loop-p-test.false in
    c.loop-p.invariant ∙ ap₂ (span (λ e. e)) c.edges_before-first.ensures.value (omega (arith, many, size, count, end, all))
