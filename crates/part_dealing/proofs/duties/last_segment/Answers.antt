use Rattle.std.proofs.Common.{◌≡◌, get_or, ap, ◌∙◌, arith, subst}
use Rattle.std.specs.Prelude.{◌⊎◌, Any}
use Rattle.std.proofs.lemmas.List.{get_or_default}
use Rattle.layout.specs.declared.lines.PortLine.{PortLine}
use Rattle.part_dealing.proofs.DutyPlaces.{none_later, one_of_more, one_of_all}
use Rattle.part_dealing.proofs.duties.last_segment.Goals as goal

pub loop-port-preserved : goal.loop-port-preserved
loop-port-preserved c =
    let ps = c.as_slice-ports.result.now in
    let old = c.loop-port.invariant in
    record {
      within = let test = c.loop-port-test.true in omega (arith, test);
      none_later = none_later ps c.loop-port.port-index c.loop-port.last c.max-last.result _ c.loop-port-test.true c.max-last.ensures old.none_later;
      one = one_of_more ps c.loop-port.port-index c.loop-port.last c.max-last.result _ c.loop-port-test.true c.max-last.ensures old.one;
    }

pub returns-clause-one : goal.returns-clause-one
returns-clause-one c d =
    let r = c.index-as_slice-repeater.result in
    let within = c.requires in
    let same : c.as_slice-ports.result.now ≡ (get_or c.args.layout.now.repeaters c.args.repeater d).ports
    = c.as_slice-ports.ensures ∙ ap (λ x. x.ports) (ap (λ xs. get_or xs c.args.repeater r) c.as_slice.ensures ∙ get_or_default c.args.layout.now.repeaters c.args.repeater r d within) in
    subst (λ ps. (c.loop-port.last ≡ 0) ⊎ Any (λ (p : PortLine). p.segment ≡ c.loop-port.last) ps) same
    (one_of_all c.as_slice-ports.result.now c.loop-port.port-index c.loop-port.last c.loop-port.invariant.within c.loop-port.invariant.one)
