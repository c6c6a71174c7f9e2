use Rattle.std.proofs.Common.{◌≡◌, ◌+◌, ◌<◌, ◌++◌, drop, length, get_or, sym, ap, ◌∙◌, arith}
use Rattle.std.specs.List.{flat_map}
use Rattle.std.proofs.lemmas.List.{at_drop_more, append_assoc}
use Rattle.layout.specs.declared.lines.RepeaterLine.{RepeaterLine}
use Rattle.network.specs.TapsOnSegments.{numbers_on}
use Rattle.net_parts.proofs.EdgeNumbers.{numbers_two}
use Rattle.net_parts.proofs.edges.edges_on_segment.Goals as goal

pub loop-repeater-preserved : goal.loop-repeater-preserved
loop-repeater-preserved c =
    let l = c.args.layout.now in
    let s = c.args.segment in
    let rs = c.as_slice-repeaters.result.now in
    let d = c.repeater-item.result in
    let k = c.loop-repeater.repeater-index in
    let first = c.loop-repeater.first in
    let ports = c.as_slice-ports.result.now in
    let read : ports ≡ (get_or rs k d).ports = c.as_slice-ports.ensures ∙ ap (λ (r : RepeaterLine). r.ports) c.repeater-item.is in
    let rest = flat_map (λ (r : RepeaterLine). r.ports) (drop (k + 1) rs) in
    let later = numbers_on s (first + length ports) rest in
    let same = ap length c.as_slice-repeaters.ensures in
    let in_it : k < length l.repeaters = omega (arith, c.loop-repeater-test.true, same) in
    let row = c.requires.repeaters k d in_it in
    let most = row.ports_most in
    let port = ap length (read ∙ ap (λ xs. (get_or xs k d).ports) c.as_slice-repeaters.ensures) in
    let few = c.loop-repeater.invariant.few in
    let two : numbers_on s first (flat_map (λ (r : RepeaterLine). r.ports) (drop k rs)) ≡ numbers_on s first ports ++ later =
    at_drop_more (λ xs. numbers_on s first (flat_map (λ (r : RepeaterLine). r.ports) xs)) rs k d c.loop-repeater-test.true
    ∙ ap (λ xs. numbers_on s first (xs ++ rest)) (sym read)
    ∙ numbers_two s first ports rest in
    record {
      so_far =
          ap (λ es. es ++ later) c.in_ok-push_edges.ensures
          ∙ append_assoc c.loop-repeater.edges (numbers_on s first ports) later
          ∙ ap (λ es. c.loop-repeater.edges ++ es) (sym two)
          ∙ c.loop-repeater.invariant.so_far;
      few = omega (arith, most, port, few);
    }
