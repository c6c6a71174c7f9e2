use Rattle.std.proofs.Common.{◌≡◌, ◌+◌, sym, ◌∙◌, arith}
use Rattle.layout.specs.declared.lines.RepeaterLine.{RepeaterLine}
use Rattle.run_checkpoint.proofs.NamesFound.{name_after, name_here, no_name_left}
use Rattle.run_checkpoint.proofs.places.repeater_named.Goals as goal

pub returns-then-eq : goal.returns-then-eq
returns-then-eq c =
    c.repeaters.invariant
    ∙ name_here (λ (s : RepeaterLine). s.name) c.args.repeaters.now c.repeaters.k (c.args.before + c.repeaters.k) c.index-repeaters-k.result c.as_bytes.result.now c.args.name.now c.repeaters-test.true
    (c.as_bytes.ensures.value ∙ c.as_str.ensures) (sym c.eq.ensures ∙ c.if-eq.true)

pub repeaters-preserved : goal.repeaters-preserved
repeaters-preserved c =
    let e : (c.args.before + c.repeaters.k) + 1 ≡ c.args.before + (c.repeaters.k + 1) = omega arith in
    c.repeaters.invariant
    ∙ rw (← e) (name_after (λ (s : RepeaterLine). s.name) c.args.repeaters.now c.repeaters.k (c.args.before + c.repeaters.k) c.index-repeaters-k.result c.as_bytes.result.now c.args.name.now c.repeaters-test.true
    (c.as_bytes.ensures.value ∙ c.as_str.ensures) (sym c.eq.ensures ∙ c.if-eq.false))

pub returns : goal.returns
returns c = c.repeaters.invariant ∙ no_name_left (λ (s : RepeaterLine). s.name) c.args.repeaters.now c.repeaters.k (c.args.before + c.repeaters.k) c.args.name.now (omega (arith, c.repeaters-test.false))
